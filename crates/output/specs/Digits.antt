-- Numbers as digits.
use Rattle.std.specs.Prelude.{ℕ, ◌+◌, ◌/◌, ◌%◌, cond, List, [], ◌∷◌, ◌++◌, decimal, nat_lt}

-- a hexadecimal digit
abbrev pub digit : ℕ → ℕ
digit d = cond (nat_lt d 10) (48 + d) (87 + d)

-- a byte as two of them
abbrev pub hex_of : ℕ → List ℕ
hex_of b = digit (b / 16) ∷ digit (b % 16) ∷ []

-- a line of a word and two numbers, with a space between them
abbrev pub pair_line : List ℕ → ℕ → ℕ → List ℕ
pair_line word a b = (word ++ (decimal a ++ (32 ∷ []))) ++ (decimal b ++ (10 ∷ []))
