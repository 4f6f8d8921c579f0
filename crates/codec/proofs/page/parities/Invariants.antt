use Rattle.std.proofs.Common.{◌≡◌, ◌*◌, ◌≤◌, length, take, drop}
use Rattle.std.specs.Slice.Iter.{chunks_exact_rest, chunks_exact_size}
use Rattle.codec.specs.Pages.{checks}
use Rattle.codec.proofs.page.parities.Given as goal

abbrev pub invariant-loop-i : goal.invariant-loop-i
invariant-loop-i l =
    (length l.checks ≡ 33) × (take (2 * l.i-iterator.count) (drop 1 l.checks) ≡ checks l.i-iterator.count l.pieces)
    × (l.i-iterator.count ≤ 16) × (chunks_exact_size l.i-iterator.iter ≡ 256)
    × (chunks_exact_rest l.i-iterator.iter ≡ drop (256 * l.i-iterator.count) (take 4096 l.pieces))
