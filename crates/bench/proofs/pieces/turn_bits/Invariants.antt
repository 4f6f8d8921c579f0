use Rattle.std.proofs.Common.{◌≡◌, ℕ, ◌<◌, ◌≤◌}
use Rattle.drive.specs.Bits.{apart}
use Rattle.bench.specs.Pieces.{piece_at}
use Rattle.bench.proofs.pieces.turn_bits.Given as goal

abbrev pub invariant-loop-piece : goal.invariant-loop-piece
invariant-loop-piece l =
    ((j : ℕ) → j < l.piece → apart (piece_at l.initial.page j) (piece_at l.page j) ≤ 1)
    × ((j : ℕ) → l.piece ≤ j → piece_at l.page j ≡ piece_at l.initial.page j)
    × (l.turned ≤ l.piece)
