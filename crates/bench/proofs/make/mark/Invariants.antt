use Rattle.std.proofs.Common.{◌≡◌, ℕ, ◌<◌, length, take}
use Rattle.bench.specs.Held.{cell_at}
use Rattle.bench.specs.Made.{marked, listed}
use Rattle.bench.proofs.make.mark.Given as goal

abbrev pub invariant-loop-block : goal.invariant-loop-block
invariant-loop-block l = (k : ℕ) → k < length l.initial.cells → cell_at l.cells k ≡ marked (listed (take l.block-index l.bad) k)
