use Rattle.std.proofs.Common.{◌≡◌, ℕ, ◌<◌, ◌≤◌, T, get_or}
use Rattle.drive.specs.Bits.{under_bits}
use Rattle.bench.proofs.pieces.raise.Given as goal

abbrev pub invariant-loop-byte : goal.invariant-loop-byte
invariant-loop-byte g l = record {
  callable : goal.F-IsAlwaysCallable g l.mask;
  raised : ((k : ℕ) → k < l.byte-index → T (under_bits 8 (get_or l.initial.page k 0) (get_or l.page k 0))) × ((k : ℕ) → l.byte-index ≤ k → get_or l.page k 0 ≡ get_or l.initial.page k 0);
}
