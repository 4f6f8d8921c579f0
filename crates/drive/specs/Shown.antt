-- What is read off the chip of a page that was sealed.
-- Assumes nothing.
use Rattle.std.specs.Prelude.{◌≡◌, ℕ, ◌≤◌, T, List, length, take, drop}
use Rattle.drive.specs.Bits.{all_bytes, apart, mark}
use Rattle.drive.specs.Nand.{Blank, Written, Torn, Shows}
use Rattle.codec.specs.Pages.{paged, data_in, mark_in}

-- what was read tells the mark w
abbrev pub Tells : List ℕ → List ℕ → Type 0
Tells r w = apart (mark w) (take 192 (drop 4096 r)) ≤ 1

-- a page that was written gives back its data and its mark
abbrev pub WrittenShown : Type 0
WrittenShown =
    (v d r : List ℕ) → T (all_bytes v) → T (all_bytes d) → length v ≡ 32 → length d ≡ 4096 → Shows (Written (paged v d)) r
    → (data_in r ≡ d) × (mark_in (take 192 (drop 4096 r)) ≡ v) × Tells r v

-- a torn page tells the mark that was to be written, or none
abbrev pub TornShown : Type 0
TornShown =
    (v d w r : List ℕ) → T (all_bytes v) → T (all_bytes w) → length v ≡ 32 → length w ≡ 32 → length d ≡ 4096 → Shows (Torn (paged v d)) r → Tells r w → v ≡ w

-- a blank page tells no mark
abbrev pub BlankShown : Type 0
BlankShown = (w r : List ℕ) → T (all_bytes w) → length w ≡ 32 → Shows Blank r → Tells r w → ⊥
