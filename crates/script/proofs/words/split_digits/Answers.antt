use Rattle.std.proofs.Common.{rules}
use Rattle.script.proofs.Digits.{digits_before}
use Rattle.script.proofs.words.split_digits.Goals as goal

pub returns : goal.returns
returns c = digits_before _ _ _ c.split_before.ensures (λ b h. search rules) (λ b h k. search rules)
