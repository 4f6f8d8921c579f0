-- Lists of which one part changed. Assumes nothing.
use Rattle.std.proofs.Common.{◌≡◌, ℕ, ◌+◌, ◌-◌, ◌<◌, ◌≤◌, ◌⊎◌, List, ◌++◌, length, get_or, take, drop, map, ap, ◌∙◌, inl, inr, arith, length-append, length-drop}
use borrow.Rule.Slice.PartMut.{put_mid}
use Rattle.std.proofs.lemmas.List.{get_or-take, get_or-drop, get_or-map, get_or-append_right, get_or_append_left, length-take-le, length-map}
use Rattle.drive.specs.declared.Answer.{Answer}
use Rattle.bench.specs.declared.memory.PageState.{PageState}
use Rattle.bench.specs.declared.memory.PageState.TheVariants.{Blank}
use Rattle.bench.specs.Held.{state_at, worn_state}

-- the states from place p on, of n pages, become worn ones
module _ (a : Answer) (p n : ℕ) (xs ys : List PageState) (h : p + n ≤ length xs) (is : ys ≡ map (worn_state a) (take (p + n - p) (drop p xs))) where
  abbrev m : ℕ
  m = p + n - p

  front : length (take p xs) ≡ p
  front = length-take-le p xs (omega arith)

  inner : length (take m (drop p xs)) ≡ n
  inner = omega (arith, length-take-le m (drop p xs) (omega (arith, length-drop p xs)))

  long : length ys ≡ n
  long = omega (arith, ap length is, length-map (take m (drop p xs)) (worn_state a), inner)

  pub row_long : length (put_mid p m xs ys) ≡ length xs
  row_long = omega (arith, length-append (take p xs) (ys ++ drop m (drop p xs)), length-append ys (drop m (drop p xs)), front, long, length-drop m (drop p xs), length-drop p xs)

  pub row_here : (i : ℕ) → p ≤ i → i < p + n → state_at (put_mid p m xs ys) i ≡ worn_state a (state_at xs i)
  row_here i l r =
      get_or-append_right (take p xs) (ys ++ drop m (drop p xs)) p i Blank front l ∙ get_or_append_left ys (drop m (drop p xs)) Blank (i - p) (omega (arith, long))
      ∙ ap (λ (zs : List PageState). get_or zs (i - p) Blank) is ∙ get_or-map (worn_state a) (take m (drop p xs)) (i - p) Blank Blank (omega (arith, inner))
      ∙ ap (worn_state a) (get_or-take m (drop p xs) (i - p) Blank (omega arith) ∙ get_or-drop p xs (i - p) Blank ∙ ap (λ (j : ℕ). get_or xs j Blank) (omega arith))

  pub row_other : (i : ℕ) → (i < p) ⊎ (p + n ≤ i) → state_at (put_mid p m xs ys) i ≡ state_at xs i
  row_other i (inl l) = get_or_append_left (take p xs) (ys ++ drop m (drop p xs)) Blank i (omega (arith, front)) ∙ get_or-take p xs i Blank l
  row_other i (inr l) =
      get_or-append_right (take p xs) (ys ++ drop m (drop p xs)) p i Blank front (omega arith) ∙ get_or-append_right ys (drop m (drop p xs)) n (i - p) Blank long (omega arith)
      ∙ get_or-drop m (drop p xs) (i - p - n) Blank ∙ get_or-drop p xs (m + (i - p - n)) Blank ∙ ap (λ (j : ℕ). get_or xs j Blank) (omega arith)

-- the first n of a list become others
module _ {X : Type 0} (n : ℕ) (xs ys : List X) (h : n ≤ length xs) (is : length ys ≡ n) where
  pub front_long : length (put_mid 0 (n - 0) xs ys) ≡ length xs
  front_long = omega (arith, length-append ys (drop (n - 0) xs), is, length-drop (n - 0) xs)

  pub front_at : (k : ℕ) (d : X) → k < n → get_or (put_mid 0 (n - 0) xs ys) k d ≡ get_or ys k d
  front_at k d l = get_or_append_left ys (drop (n - 0) xs) d k (omega (arith, is))
