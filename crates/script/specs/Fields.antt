-- How the fields of a command are written. Assumes nothing.
use Rattle.std.specs.Prelude.{ℕ, ◌/◌, ◌%◌, List, [], ◌∷◌, decimal}
use Rattle.std.specs.Char.{digit_char}

-- a space and a number
abbrev pub field_text : ℕ → List ℕ
field_text n = 32 ∷ decimal n

-- a space and two hexadecimal digits
abbrev pub byte_text : ℕ → List ℕ
byte_text b = 32 ∷ digit_char (b / 16) ∷ digit_char (b % 16) ∷ []
