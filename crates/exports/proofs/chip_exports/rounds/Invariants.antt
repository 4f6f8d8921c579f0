use Rattle.std.proofs.Common.{◌≡◌, length}
use Rattle.bench_tests.specs.Asked.{Kept}
use Rattle.exports.proofs.chip_exports.rounds.Given as goal

abbrev pub invariant-loop-block : goal.invariant-loop-block
invariant-loop-block g l = Kept (g.C.Chip.nand l.initial.chip) (g.C.Chip.nand l.chip) × (length l.page ≡ 4352)

abbrev pub invariant-loop : goal.invariant-loop
invariant-loop g l = Kept (g.C.Chip.nand l.initial.chip) (g.C.Chip.nand l.chip) × (length l.page ≡ 4352)
