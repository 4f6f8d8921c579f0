-- The laws of integers in bytes, over the width. Assumes nothing.
use Rattle.std.proofs.Common.{◌≡◌, ℕ, zero, suc, ◌+◌, ◌-◌, ◌*◌, ◌/◌, ◌%◌, ◌^◌, ◌<◌, ◌≤◌, ◌⊎◌, List, [], ◌∷◌, ◌++◌, length, get_or, take, drop, sym, refl, ap, ◌∙◌, ap₂, inl, inr, pow-suc, arith, length-drop}
use native.Mathlib.Nat.{one-le-pow}
use Rattle.std.proofs.Math.Nat.{mul-add, mul_comm, mul_assoc, div-div-eq-div-mul}
use borrow.Rule.Slice.PartMut.{put_mid}
use Rattle.std.proofs.lemmas.List.{places, drop-take, drop_at, drop_all, get_or-drop, length-take-le}
use Rattle.std.proofs.lemmas.Slice.{take-put_mid, take-put_mid_below, drop-put_mid}
use Rattle.std.proofs.lemmas.Bool.{cases_lt}
use Rattle.std.specs.Int.{byte_worth, byte_at, bytes_low_first, sum_through}
use Rattle.words.specs.Words.{value, little, value_at, Written}

each_taken : (n : ℕ) (bs : List ℕ) → ((k : ℕ) → get_or bs k 0 < 256) → (k : ℕ) → get_or (take n bs) k 0 < 256
each_taken zero bs f k = omega arith
each_taken (suc n) [] f k = omega arith
each_taken (suc n) (b ∷ bs) f zero = f 0
each_taken (suc n) (b ∷ bs) f (suc k) = each_taken n bs (λ j. f (suc j)) k

-- reading back what was written
pub value-little : (n v : ℕ) → value (little (suc n) v) ≡ v
unfolding value little
value-little zero v = omega arith
value-little (suc n) v = omega (arith, value-little n (v / 256))

pub length-little : (n v : ℕ) → length (little n v) ≡ n
unfolding little
length-little zero v = refl
length-little (suc zero) v = refl
length-little (suc (suc n)) v = ap suc (length-little (suc n) (v / 256))

-- two numbers in the same bytes are one
pub little-same : (n v w : ℕ) → little (suc n) v ≡ little (suc n) w → v ≡ w
little-same n v w e = sym (value-little n v) ∙ ap value e ∙ value-little n w

-- bytes are those of the number that they say
pub little-value : (n : ℕ) (bs : List ℕ) → ((k : ℕ) → get_or bs k 0 < 256) → length bs ≡ suc n → little (suc n) (value bs) ≡ bs
unfolding value little
little-value zero [] f l = absurd (omega arith)
little-value zero (b ∷ []) f l = let e : b + 0 ≡ b = omega arith in ap (λ x. x ∷ []) e
little-value zero (b ∷ c ∷ bs) f l = absurd (omega arith)
little-value (suc n) [] f l = absurd (omega arith)
little-value (suc n) (b ∷ bs) f l =
    let low : b < 256 = f 0 in
    let q : (b + 256 * value bs) / 256 ≡ value bs = omega arith in
    let r : (b + 256 * value bs) % 256 ≡ b = omega arith in
    ap₂ (λ (x : ℕ) (y : List ℕ). x ∷ y) r (ap (little (suc n)) q ∙ little-value n bs (λ k. f (suc k)) (omega arith))

-- n bytes say a number below 256 ^ n
value_below : (n : ℕ) (bs : List ℕ) → ((k : ℕ) → get_or bs k 0 < 256) → value (take n bs) < 256 ^ n
unfolding value
value_below zero bs f = omega arith
value_below (suc n) [] f = one-le-pow (suc n) 256 (omega arith)
value_below (suc n) (b ∷ bs) f =
    let low : b < 256 = f 0 in
    let rest = value_below n bs (λ k. f (suc k)) in
    rw pow-suc (omega arith)

pub below : (n : ℕ) (xs : List ℕ) (i : ℕ) → ((k : ℕ) → get_or xs k 0 < 256) → value_at n xs i < 256 ^ n
unfolding value_at
below n xs i f = value_below n (drop i xs) (λ k. rw get_or-drop (f (i + k)))

-- the bytes at i are those of the number that stands there
pub bytes_at : (n : ℕ) (xs : List ℕ) (i : ℕ) → ((k : ℕ) → get_or xs k 0 < 256) → i + suc n ≤ length xs → take (suc n) (drop i xs) ≡ little (suc n) (value_at (suc n) xs i)
unfolding value_at
bytes_at n xs i f h =
    let part = take (suc n) (drop i xs) in
    sym (little-value n part (λ k. each_taken (suc n) (drop i xs) (λ j. rw get_or-drop (f (i + j))) k) (length-take-le (suc n) (drop i xs) (omega (arith, length-drop i xs))))

-- ---- a write

-- a part that lies before or behind what was written over is as it was
pub mid_kept : (i k : ℕ) (xs ys : List ℕ) → i ≤ length xs → length ys ≡ k → (m j : ℕ) → (j + m ≤ i) ⊎ (i + k ≤ j) → take m (drop j (put_mid i k xs ys)) ≡ take m (drop j xs)
mid_kept i k xs ys h l m j (inl b) =
    sym (drop-take j m (put_mid i k xs ys)) ∙ ap (drop j) (take-put_mid_below i k xs ys (j + m) b h) ∙ drop-take j m xs
mid_kept i k xs ys h l m j (inr b) = ap (take m) (drop-put_mid i k xs ys j b h l)

pub mid_other : (i k : ℕ) (xs ys : List ℕ) → i ≤ length xs → length ys ≡ k → (o : ℕ) → (o < i) ⊎ (i + k ≤ o) → get_or (put_mid i k xs ys) o 0 ≡ get_or xs o 0
mid_other i k xs ys h l o (inl b) = grind (arith, places)
mid_other i k xs ys h l o (inr b) = grind (arith, places)

pub mid_here : (i k : ℕ) (xs ys : List ℕ) → i ≤ length xs → length ys ≡ k → take k (drop i (put_mid i k xs ys)) ≡ ys
mid_here i k xs ys h l = sym (drop-take i k (put_mid i k xs ys)) ∙ ap (drop i) (take-put_mid i k xs ys (i + k) (omega arith) h) ∙ drop_at (take i xs) ys i (length-take-le i xs h)

-- n bytes at i are written over by those of v
pub written : (n i : ℕ) (xs ys : List ℕ) (v : ℕ) → 0 < n → i + n ≤ length xs → ys ≡ little n v → Written n i v xs (put_mid i (i + n - i) xs ys)
unfolding value_at
written zero i xs ys v some h is = absurd (omega arith)
written (suc n) i xs ys v some h is =
    let k = i + suc n - i in
    let e : k ≡ suc n = omega arith in
    let l : length ys ≡ k = ap length is ∙ length-little (suc n) v ∙ sym e in
    let low : i ≤ length xs = omega arith in
    let side : (j : ℕ) → i + suc n ≤ j → i + k ≤ j = λ j b. omega arith in
    record {
      here = ap (λ m. value (take m (drop i (put_mid i k xs ys)))) (sym e) ∙ ap value (mid_here i k xs ys low l ∙ is) ∙ value-little n v;
      elsewhere = λ m j o. ap value (mid_kept i k xs ys low l m j (elim o [ inl b ↦ inl b | inr b ↦ inr (side j b) ]));
      others = λ j o. mid_other i k xs ys low l j (elim o [ inl b ↦ inl b | inr b ↦ inr (side j b) ]);
      front = take-put_mid i k xs ys (i + suc n) (omega arith) low ∙ ap (λ z. take i xs ++ z) is;
    }

-- ---- the bytes of a number

-- n bytes from i on, as a slice names them
pub part : (i n : ℕ) (xs bs : List ℕ) → bs ≡ take (i + n - i) (drop i xs) → bs ≡ take n (drop i xs)
part i n xs bs e = let k : i + n - i ≡ n = omega arith in e ∙ ap (λ m. take m (drop i xs)) k

-- the number from place k on: the byte there, and the number behind it
next : (k : ℕ) (bs : List ℕ) → value (drop k bs) ≡ get_or bs k 0 + 256 * value (drop (suc k) bs)
unfolding value
next zero [] = refl
next zero (b ∷ bs) = refl
next (suc k) [] = refl
next (suc k) (b ∷ bs) = next k bs

-- byte i of v
byte_at-pow : (i v : ℕ) → byte_at i v ≡ v / 256 ^ i % 256
byte_at-pow zero v = omega arith
byte_at-pow (suc i) v = refl

-- what the first bytes say, and those behind them
sums : (k : ℕ) (bs : List ℕ) → value bs ≡ sum_through (λ i. byte_worth i (get_or bs i 0)) k + 256 ^ suc k * value (drop (suc k) bs)
sums zero bs = omega (arith, next 0 bs)
sums (suc k) bs =
    let p = 256 ^ suc k in
    let b = get_or bs (suc k) 0 in
    let v = value (drop (suc (suc k)) bs) in
    sums k bs ∙ rw (next (suc k) bs, mul-add p b (256 * v), sym (mul_assoc p 256 v), sym (pow-suc 256 (suc k)), mul_comm p b) (omega arith)

-- the bytes of a number, as the library's reading of them says it
pub value_sum : (n : ℕ) (bs : List ℕ) → length bs ≡ suc n → sum_through (λ i. byte_worth i (get_or bs i 0)) n ≡ value bs
unfolding value
value_sum n bs l =
    let v : value (drop (suc n) bs) ≡ 0 = ap value (drop_all (suc n) bs (omega arith)) in
    let s = sums n bs in
    let z : 256 ^ suc n * value (drop (suc n) bs) ≡ 0 = ap (λ x. 256 ^ suc n * x) v ∙ omega arith in
    omega (arith, s, z)

-- the bytes of a number from place i on
low_first : (n i v : ℕ) → v / 256 ^ i < 256 ^ suc n → bytes_low_first i (suc n) v ≡ little (suc n) (v / 256 ^ i)
unfolding little
low_first zero i v h = ap (λ x. x ∷ []) (byte_at-pow i v ∙ omega arith)
low_first (suc n) i v h =
    let shift : v / 256 ^ suc i ≡ v / 256 ^ i / 256 = ap (λ (p : ℕ). v / p) (pow-suc 256 i) ∙ sym (div-div-eq-div-mul v (256 ^ i) 256) in
    let q : 256 ^ suc (suc n) ≡ 256 ^ suc n * 256 = pow-suc 256 (suc n) in
    ap₂ (λ (x : ℕ) (y : List ℕ). x ∷ y) (byte_at-pow i v) (low_first n (suc i) v (omega arith) ∙ ap (little (suc n)) shift)

-- the bytes of a number, as the library's writing of it says it
pub little_bytes : (n v : ℕ) → v < 256 ^ suc n → bytes_low_first 0 (suc n) v ≡ little (suc n) v
little_bytes n v h = let d : v / 256 ^ 0 ≡ v = omega arith in low_first n 0 v (omega arith) ∙ ap (little (suc n)) d

-- two words do not overlap
pub apart_words : (j k : ℕ) → (j ≡ k → ⊥) → (8 * j + 8 ≤ 8 * k) ⊎ (8 * k + 8 ≤ 8 * j)
apart_words j k ne = elim (cases_lt j k) [ inl b ↦ inl (omega arith) | inr b ↦ inr (omega arith) ]
