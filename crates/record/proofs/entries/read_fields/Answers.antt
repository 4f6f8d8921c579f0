use mir.Facts.{Fits-lt-pow}
use Rattle.std.proofs.Common.{rules}
use Rattle.record.proofs.HeaderBytes.{header_read}
use Rattle.record.proofs.entries.read_fields.Goals as goal

pub returns : goal.returns
returns c =
    header_read c.args.bytes.now _ (λ k. Fits-lt-pow (c.type_inv.bytes k)) c.requires
    (search rules) (search rules) (search rules) (search rules) (search rules) (search rules)
