-- Unsigned integers in bytes, the lowest byte first. Assumes nothing.
use Rattle.std.specs.Prelude.{◌≡◌, ℕ, zero, suc, ◌+◌, ◌*◌, ◌/◌, ◌%◌, ◌<◌, ◌≤◌, ◌⊎◌, List, [], ◌∷◌, ◌++◌, take, drop, slice_index}

-- the number that bytes say
unfoldable pub value : List ℕ → ℕ
value [] = 0
value (b ∷ bs) = b + 256 * value bs

-- a number in n bytes; the last is all that is left
unfoldable pub little : ℕ → ℕ → List ℕ
little zero v = []
little (suc zero) v = v ∷ []
little (suc (suc n)) v = v % 256 ∷ little (suc n) (v / 256)

-- the number of n bytes that stands at i
unfoldable pub value_at : ℕ → List ℕ → ℕ → ℕ
value_at n xs i = value (take n (drop i xs))

-- the word of 8 bytes with the index k
unfoldable pub word_at : List ℕ → ℕ → ℕ
word_at xs k = value_at 8 xs (8 * k)

-- ys is xs with v written into n bytes at i
pub record Written (n i v : ℕ) (xs ys : List ℕ) : Type 0 where
  -- a read there finds v
  pub here : value_at n ys i ≡ v
  -- a read elsewhere finds what it found before
  pub elsewhere : (m j : ℕ) → (j + m ≤ i) ⊎ (i + n ≤ j) → value_at m ys j ≡ value_at m xs j
  -- each other byte stays
  pub others : (k : ℕ) → (k < i) ⊎ (i + n ≤ k) → slice_index ys k ≡ slice_index xs k
  -- the bytes themselves, and those before
  pub front : take (i + n) ys ≡ take i xs ++ little n v
