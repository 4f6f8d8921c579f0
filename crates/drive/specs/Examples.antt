-- Worked examples of the definitions.
-- Assumes nothing.
use Rattle.std.specs.Prelude.{◌≡◌, ℕ, ◌-◌, ◌^◌, ◌<◌, false, List, replicate, slice_set}
use Rattle.drive.specs.Bits.{apart, mark}
use Rattle.drive.specs.Host.{Cmd, Read, Write, Seen, tag_taken, why}

-- a tag of 8, a read of 9 sectors, a read of the last sector and one more, and a write of the last
abbrev pub WhyTold : Type 0
WhyTold =
    (size : ℕ) (h : Seen) → 0 < size
    → ((c : Cmd) → why size h 8 c ≡ 1)
    × ((t : ℕ) → tag_taken t h ≡ false
    → ((from : ℕ) → why size h t (Read from 9) ≡ 2) × (why size h t (Read (size - 1) 2) ≡ 3) × ((bs : List ℕ) → why size h t (Write (size - 1) 1 bs) ≡ 0))

-- the marks of 32 noughts, and of the same with one bit of one byte turned over, differ in six bits
abbrev pub SixApart : Type 0
SixApart = (i j : ℕ) → i < 32 → j < 8 → apart (mark (replicate 32 0)) (mark (slice_set (replicate 32 0) i (2 ^ j))) ≡ 6
