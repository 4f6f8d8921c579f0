use Rattle.std.proofs.Common.{rules}
use Rattle.codec.proofs.Writing.{turned_made}
use Rattle.codec.proofs.mark.complement.Goals as goal

pub returns : goal.returns
returns c =
    turned_made _ _ c.args.bytes.now _ c.from_fn.ensures.items c.requires (λ i y q h. search rules)
