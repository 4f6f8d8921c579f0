use Rattle.bench_tests.specs.Asked.{Kept}
use Rattle.bench_tests.proofs.sweep.Given as goal

abbrev pub invariant-loop-block : goal.invariant-loop-block
invariant-loop-block g l = Kept (g.C.Chip.nand l.initial.chip) (g.C.Chip.nand l.chip)
