-- What it is to read a value off a line. Assumes nothing.
use Rattle.std.specs.Prelude.{◌≡◌, ℕ, ◌<◌, ◌⊎◌, List, [], ◌∷◌, ◌++◌, length, Some, None, Option, ◌≢◌, slice_index}
use Rattle.std.specs.List.{All}
use Rattle.std.specs.Str.Parse.{AllDigits}
use Rattle.std.specs.Int.{IsInRange}
use Rattle.script.specs.declared.words.Piece.{Piece}

-- the first byte, if there is one, is no digit
abbrev pub Ends : List ℕ → Type 0
Ends [] = Unit {0}
Ends (c ∷ cs) = IsInRange 48 57 c → ⊥

-- there are digits, and no nought in front of others
abbrev pub Plain : List ℕ → Type 0
Plain ds = (0 < length ds) × (slice_index ds 0 ≡ 48 → length ds ≡ 1)

-- s is bytes of one kind, and then a rest that is empty or begins with one of another
pub record SplitBefore (Runs Stops : ℕ → Type 0) (s front rest : List ℕ) : Type 0 where
  pub whole : s ≡ front ++ rest
  pub runs : All Runs front
  pub stops : (rest ≡ []) ⊎ Stops (slice_index rest 0)

-- s is digits and then a rest that begins with none
pub record SplitDigits (s ds rest : List ℕ) : Type 0 where
  pub whole : s ≡ ds ++ rest
  pub digits : AllDigits 10 ds
  pub ends : Ends rest

-- s is the text of a value that fits, and then a rest
pub record Begins {V : Type 0} (text : V → List ℕ) (Fit : V → Type 0) (s : List ℕ) (v : V) (rest : List ℕ) : Type 0 where
  pub fit : Fit v
  pub ends : Ends rest
  pub same : s ≡ text v ++ rest

-- s begins so in no way
abbrev pub Never : {V : Type 0} → (V → List ℕ) → (V → Type 0) → List ℕ → Type 0
Never {V} text Fit s = (v : V) (rest : List ℕ) → Begins text Fit s v rest → ⊥

-- s begins so in this way and in no other
pub record Once {V : Type 0} (text : V → List ℕ) (Fit : V → Type 0) (s : List ℕ) (v : V) (rest : List ℕ) : Type 0 where
  pub begins : Begins text Fit s v rest
  pub only : (w : V) (more : List ℕ) → Begins text Fit s w more → (w ≡ v) × (more ≡ rest)

-- r is the one way in which s begins so, or there is none
abbrev pub Reads : {V : Type 0} → (V → List ℕ) → (V → Type 0) → List ℕ → Option (Piece V) → Type 0
Reads text Fit s None = Never text Fit s
Reads text Fit s (Some p) = Once text Fit s p.value p.rest.now

-- r is a value that fits and whose text is s, or there is none
abbrev pub Whole : {V : Type 0} → (V → List ℕ) → (V → Type 0) → List ℕ → Option V → Type 0
Whole {V} text Fit s None = (v : V) → Fit v → s ≢ text v
Whole text Fit s (Some v) = Fit v × (s ≡ text v)
