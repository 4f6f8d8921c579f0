use Rattle.std.proofs.Common.{◌+◌, ◌-◌, ◌*◌, get_or, arith}
use Rattle.script.proofs.Digits.{remaining_over}
use Rattle.script.proofs.words.digits_value.Goals as goal

pub returns-in_err-checked_mul : goal.returns-in_err-checked_mul
returns-in_err-checked_mul c =
    let over = remaining_over _ _ _ _ (c.loop-c.n * 10) c.loop-c-test.true c.loop-c.invariant.1 (omega arith) in
    rw c.from_residual.ensures (λ small. c.in_err-checked_mul.ensures (omega arith))

pub returns-in_err-n : goal.returns-in_err-n
returns-in_err-n c =
    let d = get_or c.args.digits.now c.loop-c.c-index 0 - 48 in
    let over = remaining_over _ _ _ _ (c.loop-c.n * 10 + d) c.loop-c-test.true c.loop-c.invariant.1 (omega arith) in
    let m = c.in_ok-checked_mul.ensures in
    rw c.from_residual-in_err-n.ensures (λ small. c.in_err-n.ensures (omega arith))
