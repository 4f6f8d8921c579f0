use Rattle.std.proofs.Common.{◌≡◌, length}
use Rattle.bench_tests.proofs.tests.exercise.Given as goal

abbrev pub invariant-loop-ask : goal.invariant-loop-ask
invariant-loop-ask l = (length l.page ≡ 4352) × (length l.room ≡ 64)
