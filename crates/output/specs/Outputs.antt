-- What stands in an output.
-- Assumes nothing.
use Rattle.std.specs.Prelude.{◌≡◌, ℕ, ◌+◌, ◌<◌, ◌≤◌, true, List, ◌++◌, length, take, slice_set}
use Rattle.output.specs.declared.Output.{Output}

-- one byte more where there's room, and else a note that there was none
pub record Pushes (o : Output) (b : ℕ) (p : Output) : Type 0 where
  pub fits : o.len < length o.bytes.now → (p.len ≡ o.len + 1) × (p.bytes.now ≡ slice_set o.bytes.now o.len b) × (p.full ≡ o.full)
  pub ends : length o.bytes.now ≤ o.len → (p.len ≡ o.len) × (p.bytes.now ≡ o.bytes.now) × (p.full ≡ true)

-- the text l was printed: as much of it as fits stands there, and a note if that isn't all
pub record Shows (o : Output) (l : List ℕ) : Type 0 where
  pub within : o.len ≤ length o.bytes.now
  pub shown : take o.len o.bytes.now ≡ take (length o.bytes.now) l
  pub cut : length o.bytes.now < length l → o.full ≡ true

-- the text l was printed behind whatever was there
abbrev pub Prints : Output → List ℕ → Output → Type 0
Prints o l p = (t : List ℕ) → Shows o t → Shows p (t ++ l)
