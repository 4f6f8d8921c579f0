-- Numbers that stand one after the other in bytes. Assumes nothing.
use Rattle.std.proofs.Common.{◌≡◌, ℕ, suc, ◌+◌, ◌<◌, ◌≤◌, List, [], ◌∷◌, ◌++◌, length, get_or, take, drop, set, sym, ap, ◌∙◌, ap₂, arith, length-append, length-drop}
use Rattle.std.proofs.lemmas.List.{take_at, drop_at, drop-drop, take-append-drop}
use Rattle.words.specs.Words.{little, value_at}
use Rattle.words.proofs.Words.{little-same, length-little, bytes_at}

take-little : (n v : ℕ) (rest : List ℕ) → take n (little n v ++ rest) ≡ little n v
take-little n v rest = take_at (little n v) rest n (length-little n v)

drop-little : (n v : ℕ) (rest : List ℕ) → drop n (little n v ++ rest) ≡ rest
drop-little n v rest = drop_at (little n v) rest n (length-little n v)

-- rows that are the same begin with the same number, and go on alike
pub first : (n v w : ℕ) (r s : List ℕ) → little (suc n) v ++ r ≡ little (suc n) w ++ s → (v ≡ w) × (r ≡ s)
first n v w r s e =
    (little-same n v w (sym (take-little (suc n) v r) ∙ ap (take (suc n)) e ∙ take-little (suc n) w s), sym (drop-little (suc n) v r) ∙ ap (drop (suc n)) e ∙ drop-little (suc n) w s)

-- what lies from i on begins with the number at i
pub peel : (n i j : ℕ) (xs : List ℕ) (v : ℕ) → ((k : ℕ) → get_or xs k 0 < 256) → i + suc n ≤ length xs → i + suc n ≡ j → v ≡ value_at (suc n) xs i → drop i xs ≡ little (suc n) v ++ drop j xs
peel n i j xs v low h e is =
    sym (take-append-drop (suc n) (drop i xs)) ∙ ap₂ (λ (a b : List ℕ). a ++ b) (bytes_at n xs i low h ∙ ap (little (suc n)) (sym is)) (drop-drop (suc n) i xs ∙ ap (λ k. drop k xs) e)

-- the first two bytes that are set
pub two_set : (xs : List ℕ) (a b k l : ℕ) → 2 ≤ length xs → a ≡ k → b ≡ l → take 2 (set (set xs 0 a) 1 b) ≡ k ∷ l ∷ []
two_set [] a b k l h p q = absurd (omega arith)
two_set (x ∷ []) a b k l h p q = absurd (omega arith)
two_set (x ∷ y ∷ xs) a b k l h p q = ap₂ (λ (c d : ℕ). c ∷ d ∷ []) p q

-- a part at the front that is written over
pub over_front : (n : ℕ) (xs ys : List ℕ) → n ≤ length xs → length ys ≡ n → length (ys ++ drop n xs) ≡ length xs
over_front n xs ys h l = omega (arith, length-append ys (drop n xs), length-drop n xs)
