-- What a reader finds. Assumes nothing.
use Rattle.std.specs.Prelude.{◌≡◌, Ok, Err, Result, ◌≢◌}

-- the value that is written as b, or an error where there is no such value
abbrev pub Decoded : {A B E : Type 0} → (A → B) → B → Result A E → Type 0
Decoded write b (Ok a) = b ≡ write a
Decoded {A} write b (Err e) = (a : A) → b ≢ write a

-- no two values are written alike
abbrev pub Distinct : {A B : Type 0} → (A → B) → Type 0
Distinct {A} write = (a b : A) → write a ≡ write b → a ≡ b
