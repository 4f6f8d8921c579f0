-- The steps of the loops over a page's pieces. Assumes nothing.
use Rattle.std.proofs.Common.{true, ◌≡◌, ℕ, zero, suc, ◌+◌, ◌-◌, ◌*◌, ◌/◌, ◌%◌, ◌^◌, ◌<◌, ◌≤◌, eqb, ◌⊎◌, Option, Some, None, ⊎_elim, List, [], ◌∷◌, ◌++◌, length, get_or, take, drop, sym, refl, ap, ◌∙◌, subst, ap₂, append_assoc, pow-suc, add-one, arith, length-drop, length-take}
use borrow.Rule.Slice.PartMut.{put_mid}
use lib.Bits.{bit_xor, xor_mod, xor_shr}
use lib.Count.{ones, ones_step, ones-ones}
use Rattle.std.proofs.lemmas.List.{append-nil, get_or-drop, drop-drop, length-set}
use Rattle.std.proofs.lemmas.Slice.{take-put_mid, drop-put_mid}
use Rattle.std.specs.Iterator.{Yields}
use Rattle.std.specs.Iterator.Runs.{Run, YieldsRun}
use Rattle.std.specs.List.{fold}
use Rattle.codec.specs.Bits.{apart_bits, apart}
use Rattle.codec.proofs.Marks.{fails}
use Rattle.codec.specs.Mending.{column, places, mended}
use Rattle.codec.specs.Pages.{repaired, checks_in, data_in}

pub length-mended : (x h : ℕ) (r : List ℕ) → length (mended x h r) ≡ length r
unfolding mended
length-mended x h r = length-set r (bit_xor h (places 0 r)) (bit_xor (get_or r (bit_xor h (places 0 r)) 0) (bit_xor x (column r)))

repaired-suc : (n : ℕ) (cs r : List ℕ) → repaired (suc n) cs r ≡ repaired n cs r ++ mended (get_or cs (2 * n) 0) (get_or cs (2 * n + 1) 0) (take 256 (drop (256 * n) r))
unfolding repaired
repaired-suc zero cs r = append-nil (mended (get_or cs 0 0) (get_or cs 1 0) (take 256 r))
repaired-suc (suc n) cs r =
    let m = mended (get_or cs 0 0) (get_or cs 1 0) (take 256 r) in
    let a : 2 + 2 * n ≡ 2 * suc n = omega arith in
    let b : 2 + (2 * n + 1) ≡ 2 * suc n + 1 = omega arith in
    let e : 256 + 256 * n ≡ 256 * suc n = omega arith in
    let p = get_or-drop 2 cs (2 * n) 0 ∙ ap (λ k. get_or cs k 0) a in
    let q = get_or-drop 2 cs (2 * n + 1) 0 ∙ ap (λ k. get_or cs k 0) b in
    let s = drop-drop (256 * n) 256 r ∙ ap (λ k. drop k r) e in
    ap (λ x. m ++ x) (repaired-suc n (drop 2 cs) (drop 256 r))
    ∙ sym (append_assoc m (repaired n (drop 2 cs) (drop 256 r)) (mended (get_or (drop 2 cs) (2 * n) 0) (get_or (drop 2 cs) (2 * n + 1) 0) (take 256 (drop (256 * n) (drop 256 r)))))
    ∙ ap (λ z. (m ++ repaired n (drop 2 cs) (drop 256 r)) ++ z) (ap₂ (λ x y. mended x y (take 256 (drop (256 * n) (drop 256 r)))) p q ∙ ap (λ x. mended (get_or cs (2 * suc n) 0) (get_or cs (2 * suc n + 1) 0) (take 256 x)) s)

-- the piece at i is mended
pub unseal_step : (i : ℕ) (page page0 cs ys : List ℕ) → length page ≡ 4352 → i < 16
    → take (256 * i) page ≡ repaired i (drop 1 cs) page0 → drop (256 * i) page ≡ drop (256 * i) page0
    → ys ≡ mended (get_or cs (2 * i + 1) 0) (get_or cs (2 * i + 2) 0) (take (256 * i + 256 - 256 * i) (drop (256 * i) page))
    → (take (256 * (i + 1)) (put_mid (256 * i) (256 * i + 256 - 256 * i) page ys) ≡ repaired (i + 1) (drop 1 cs) page0)
    × (drop (256 * (i + 1)) (put_mid (256 * i) (256 * i + 256 - 256 * i) page ys) ≡ drop (256 * (i + 1)) page0)
unseal_step i page page0 cs ys l h front back is =
    let k = 256 * i + 256 - 256 * i in
    let part = take k (drop (256 * i) page) in
    let kn : k ≡ 256 = omega arith in
    let ly : length ys ≡ 256 =
    ap length is ∙ length-mended (get_or cs (2 * i + 1) 0) (get_or cs (2 * i + 2) 0) part ∙ omega (arith, length-take k (drop (256 * i) page), length-drop (256 * i) page) in
    let lp : 256 * i ≤ length page = omega arith in
    let a : 1 + 2 * i ≡ 2 * i + 1 = omega arith in
    let b : 1 + (2 * i + 1) ≡ 2 * i + 2 = omega arith in
    let p = get_or-drop 1 cs (2 * i) 0 ∙ ap (λ n. get_or cs n 0) a in
    let q = get_or-drop 1 cs (2 * i + 1) 0 ∙ ap (λ n. get_or cs n 0) b in
    let t = take-put_mid (256 * i) k page ys (256 * (i + 1)) (omega arith) lp in
    let d = drop-put_mid (256 * i) k page ys (256 * (i + 1)) (omega arith) lp (ly ∙ sym kn) in
    let n : 256 * i + 256 ≡ 256 * (i + 1) = omega arith in
    let dd = λ (x : List ℕ). drop-drop 256 (256 * i) x ∙ ap (λ m. drop m x) n in
    let ys-is : ys ≡ mended (get_or (drop 1 cs) (2 * i) 0) (get_or (drop 1 cs) (2 * i + 1) 0) (take 256 (drop (256 * i) page0)) =
    is ∙ ap₂ (λ x y. mended x y part) (sym p) (sym q)
    ∙ ap₂ (λ m x. mended (get_or (drop 1 cs) (2 * i) 0) (get_or (drop 1 cs) (2 * i + 1) 0) (take m x)) kn back in (
      t ∙ ap₂ (λ (x y : List ℕ). x ++ y) front ys-is ∙ sym (repaired-suc i (drop 1 cs) page0) ∙ ap (λ m. repaired m (drop 1 cs) page0) (sym (add-one i)),
      d ∙ sym (dd page) ∙ ap (drop 256) back ∙ dd page0,
    )

-- all pieces are mended
pub unseal_done : (i : ℕ) (page page0 cs copy : List ℕ) → i ≡ 16
    → (take (256 * i) page ≡ repaired i (drop 1 cs) page0) × (drop (256 * i) page ≡ drop (256 * i) page0)
    → cs ≡ mended 0 (get_or page0 4321 0) copy → copy ≡ take 33 (drop 4288 page0)
    → (take 4096 page ≡ data_in page0) × (drop 4096 page ≡ drop 4096 page0)
unfolding data_in checks_in
unseal_done i page page0 cs copy e h is from =
    let s = subst (λ n. (take (256 * n) page ≡ repaired n (drop 1 cs) page0) × (drop (256 * n) page ≡ drop (256 * n) page0)) e h in
    let g : get_or page0 4321 0 ≡ get_or (drop 4096 page0) 225 0 = sym (get_or-drop 4096 page0 225 0) in
    let d : drop 4288 page0 ≡ drop 192 (drop 4096 page0) = sym (drop-drop 192 4096 page0) in
    (s.0 ∙ ap (λ x. repaired 16 (drop 1 x) page0) (is ∙ ap₂ (mended 0) g (from ∙ ap (take 33) d)), s.1)

-- ---- bits apart

digit : (x y : ℕ) → x < 2 → y < 2 → bit_xor x y ≡ fails (eqb x y)
digit zero zero h k = refl
digit zero (suc zero) h k = refl
digit zero (suc (suc y)) h k = absurd (omega arith)
digit (suc zero) zero h k = refl
digit (suc zero) (suc zero) h k = refl
digit (suc zero) (suc (suc y)) h k = absurd (omega arith)
digit (suc (suc x)) y h k = absurd (omega arith)

apart_ones : (n a b : ℕ) → a < 2 ^ n → b < 2 ^ n → apart_bits n a b ≡ ones (bit_xor a b)
unfolding apart_bits
apart_ones zero a b h k =
    let e : a ≡ 0 = omega arith in
    let f : b ≡ 0 = omega arith in
    sym (ap₂ (λ x y. ones (bit_xor x y)) e f ∙ ones-ones 0)
apart_ones (suc n) a b h k =
    let ih = apart_ones n (a / 2) (b / 2) (omega (arith, rw pow-suc at h)) (omega (arith, rw pow-suc at k)) in
    ap₂ (λ x y. x + y) (sym (digit (a % 2) (b % 2) (omega arith) (omega arith))) ih
    ∙ sym (ones_step (bit_xor a b) ∙ ap₂ (λ x y. x + ones y) (xor_mod a b 1) (xor_shr a b 1))

-- what the differences of two rows sum up to, taken one after another from the front
sum_apart_from : {S : Type 0} (steps : S → Option ℕ → S → Type 0) (left right : S → List ℕ)
    → ((s : S) (n : ℕ) (t : S) → steps s (Some n) t → (x : ℕ) × (y : ℕ) × (left s ≡ x ∷ left t) × (right s ≡ y ∷ right t) × (n ≡ ones (bit_xor x y)))
    → ((s t : S) → steps s None t → (length (left s) ≡ 0) ⊎ (length (right s) ≡ 0))
    → (xs a b : List ℕ) (n : ℕ) (s t u : S) → Yields steps s xs t → steps t None u → left s ≡ a → right s ≡ b → length a ≡ length b
    → ((k : ℕ) → get_or a k 0 < 256) → ((k : ℕ) → get_or b k 0 < 256) → fold (λ m x. m + x) n xs ≡ n + apart a b
unfolding apart
sum_apart_from steps left right more end [] [] [] n s t u y z ea eb l ha hb = omega arith
sum_apart_from steps left right more end [] [] (w ∷ b) n s t u y z ea eb l ha hb = absurd (omega arith)
sum_apart_from steps left right more end [] (v ∷ a) b n s t u y z ea eb l ha hb =
    absurd (⊎_elim (λ (k : length (left t) ≡ 0). omega (arith, k, ap (λ r. length (left r)) y, ap length ea))
    (λ (k : length (right t) ≡ 0). omega (arith, k, ap (λ r. length (right r)) y, ap length eb, l)) (end t u z))
sum_apart_from steps left right more end (x ∷ xs) [] b n s t u y z ea eb l ha hb =
    let m = more s x y.0 y.1 in absurd (omega (arith, ap length ea, ap length m.2))
sum_apart_from steps left right more end (x ∷ xs) (v ∷ a) [] n s t u y z ea eb l ha hb = absurd (omega arith)
sum_apart_from steps left right more end (x ∷ xs) (v ∷ a) (w ∷ b) n s t u y z ea eb l ha hb =
    let m = more s x y.0 y.1 in
    let e : v ∷ a ≡ m.0 ∷ left y.0 = sym ea ∙ m.2 in
    let f : w ∷ b ≡ m.1 ∷ right y.0 = sym eb ∙ m.3 in
    let g : left y.0 ≡ a = cc in
    let h : right y.0 ≡ b = cc in
    let k : x ≡ ones (bit_xor v w) = cc m.4 in
    omega (arith, sum_apart_from steps left right more end xs a b (n + x) y.0 t u y.2 z g h (omega arith) (λ i. ha (suc i)) (λ i. hb (suc i)), apart_ones 8 v w (ha 0) (hb 0), k)

-- the same of a run that went on to its end
pub sum_apart : {S : Type 0} {steps : S → Option ℕ → S → Type 0} (p : Run steps) (left right : S → List ℕ) (a b : List ℕ) → p.whole ≡ true → left p.from ≡ a → right p.from ≡ b → length a ≡ length b
    → ((k : ℕ) → get_or a k 0 < 256) → ((k : ℕ) → get_or b k 0 < 256)
    → ((s : S) (n : ℕ) (t : S) → steps s (Some n) t → (x : ℕ) × (y : ℕ) × (left s ≡ x ∷ left t) × (right s ≡ y ∷ right t) × (n ≡ ones (bit_xor x y)))
    → ((s t : S) → steps s None t → (length (left s) ≡ 0) ⊎ (length (right s) ≡ 0))
    → fold (λ m x. m + x) 0 p.items ≡ apart a b
unfolding YieldsRun
sum_apart {S} {steps} p left right a b w ea eb l ha hb more end =
    let d = p.gave.0 in
    let z = d.2 w in
    omega (arith, sum_apart_from steps left right more end p.items a b 0 p.from d.0 z.0 d.1 z.1 ea eb l ha hb)
