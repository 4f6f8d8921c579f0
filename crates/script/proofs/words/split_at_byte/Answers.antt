use Rattle.std.proofs.Common.{rules}
use Rattle.script.proofs.Digits.{split_kinds}
use Rattle.script.proofs.words.split_at_byte.Goals as goal

pub returns : goal.returns
returns c = split_kinds _ _ _ c.split_before.ensures (λ b h. search rules) (λ b h. search rules)
