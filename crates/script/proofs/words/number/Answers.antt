use Rattle.script.proofs.Digits.{number_once, number_never, none_unplain, none_so_large}
use Rattle.script.proofs.words.number.Goals as goal

pub returns-then-not-is_plain : goal.returns-then-not-is_plain
returns-then-not-is_plain c = number_never _ _ _ c.split_digits.ensures (none_unplain _ c.if-not-is_plain.ensures)

pub returns-in_err-value : goal.returns-in_err-value
returns-in_err-value c =
    rw c.from_residual.ensures (number_never _ _ _ c.split_digits.ensures (none_so_large _ c.in_err-value.ensures))

pub returns : goal.returns
returns c = number_once _ _ _ _ c.split_digits.ensures c.if-not-is_plain.ensures c.in_ok-value.ensures
