-- The bytes of a page, as another page is written. Assumes nothing.
use Rattle.std.proofs.Common.{◌≡◌, ℕ, ◌+◌, ◌-◌, ◌*◌, ◌≤◌, List, length, take, drop, sym, ap, ◌∙◌, inl, inr, arith}
use borrow.Rule.Slice.PartMut.{put_mid}
use Rattle.std.proofs.lemmas.List.{drop-take, drop-drop}
use Rattle.std.proofs.lemmas.Slice.{between-put_mid, take-put_mid_below, drop-put_mid}
use Rattle.std.proofs.lemmas.Bool.{cases_lt}
use Rattle.bench.specs.Held.{slot}

-- a part of what is taken, in front of an end that stays
pub front_part : (a n : ℕ) (xs ys : List ℕ) → take (a + n) xs ≡ take (a + n) ys → take n (drop a xs) ≡ take n (drop a ys)
front_part a n xs ys e = sym (drop-take a n xs) ∙ ap (drop a) e ∙ drop-take a n ys

-- a part that follows a place from which on nothing changed
back_part : (e a n : ℕ) (xs ys : List ℕ) → e ≤ a → drop e xs ≡ drop e ys → take n (drop a xs) ≡ take n (drop a ys)
back_part e a n xs ys h eq =
    let s : a ≡ e + (a - e) = omega arith in
    let d : (zs : List ℕ) → drop a zs ≡ drop (a - e) (drop e zs) = λ zs. ap (λ m. drop m zs) s ∙ sym (drop-drop (a - e) e zs) in
    ap (take n) (d xs ∙ ap (drop (a - e)) eq ∙ sym (d ys))

pub slot_here : (p k : ℕ) (xs ys zs : List ℕ) → 4352 * p + 4352 ≤ length xs → ys ≡ zs → length zs ≡ 4352 → slot (put_mid (4352 * p) k xs ys) p ≡ zs
slot_here p k xs ys zs h e l =
    let n : 4352 * p + 4352 - 4352 * p ≡ 4352 = omega arith in
    ap (λ m. take m (drop (4352 * p) (put_mid (4352 * p) k xs ys))) (sym n)
    ∙ between-put_mid (4352 * p) k xs ys (4352 * p + 4352) (omega arith) (omega (arith, ap length e)) ∙ e

pub slot_other : (p k : ℕ) (xs ys : List ℕ) (i : ℕ) → 4352 * p + 4352 ≤ length xs → k ≡ 4352 → length ys ≡ 4352 → (i ≡ p → ⊥) → slot (put_mid (4352 * p) k xs ys) i ≡ slot xs i
slot_other p k xs ys i h e l ne =
    elim (cases_lt i p) [
      | inl lt ↦ front_part (4352 * i) 4352 (put_mid (4352 * p) k xs ys) xs (take-put_mid_below (4352 * p) k xs ys (4352 * i + 4352) (omega arith) (omega arith))
      | inr ge ↦ back_part (4352 * p + 4352) (4352 * i) 4352 (put_mid (4352 * p) k xs ys) xs (omega arith) (drop-put_mid (4352 * p) k xs ys (4352 * p + 4352) (omega arith) (omega arith) (omega arith))
    ]

pub slot_part : (p : ℕ) (xs : List ℕ) → take (4352 * p + 4352 - 4352 * p) (drop (4352 * p) xs) ≡ slot xs p
slot_part p xs = let n : 4352 * p + 4352 - 4352 * p ≡ 4352 = omega arith in ap (λ m. take m (drop (4352 * p) xs)) n
