-- The lines of a script. Assumes nothing.
use Rattle.std.specs.Prelude.{◌≡◌, ℕ, ◌+◌, ◌<◌, ◌≤◌, cond, List, [], ◌∷◌, ◌++◌, length, drop, Some, None, Option, ◌≢◌, nat_lt, slice_index}
use Rattle.std.specs.List.{between}
use Rattle.script.specs.declared.lines.Line.{Line}

-- l is the line of s that begins at a place: it holds no line feed, and ends at one or with s
pub record LineAt (s : List ℕ) (at : ℕ) (l : Line) : Type 0 where
  pub starts : l.start ≡ at
  pub ordered : at ≤ l.end
  pub within : l.end ≤ length s
  pub bare : (k : ℕ) → at ≤ k → k < l.end → slice_index s k ≢ 10
  pub fed : l.end < length s → (slice_index s l.end ≡ 10) × (l.next ≡ l.end + 1)
  pub last : l.end ≡ length s → l.next ≡ length s

-- r is the line that begins at a place, and none just where s ends before it
abbrev pub NextLine : List ℕ → ℕ → Option Line → Type 0
NextLine s at None = length s ≤ at
NextLine s at (Some l) = (at < length s) × LineAt s at l

-- what stands behind a line: a line feed, or nothing where s ends
abbrev pub line_end : List ℕ → Line → List ℕ
line_end s l = cond (nat_lt l.end (length s)) (10 ∷ []) []

-- a line, its end and what is left from the next one on are what was left before
abbrev pub LinesJoin : Type 0
LinesJoin = (s : List ℕ) (at : ℕ) (l : Line) → LineAt s at l → drop at s ≡ between at l.end s ++ (line_end s l ++ drop l.next s)
