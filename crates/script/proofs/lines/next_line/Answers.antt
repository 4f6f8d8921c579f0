use Rattle.std.proofs.Common.{refl, arith}
use Rattle.script.proofs.Joins.{line_at}
use Rattle.script.proofs.lines.next_line.Goals as goal

pub returns-then-end-script : goal.returns-then-end-script
returns-then-end-script c =
    (c.if-at-script.false, line_at _ _ _ _ _ c.if-at-script.false c.split_at_byte.ensures (λ p. refl) (λ p. absurd (omega arith)))

pub returns-else-end-script : goal.returns-else-end-script
returns-else-end-script c =
    (c.if-at-script.false, line_at _ _ _ _ _ c.if-at-script.false c.split_at_byte.ensures (λ p. absurd (omega arith)) (λ p. refl))
