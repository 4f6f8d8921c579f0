-- One bit that turned over is found and turned back. Assumes nothing.
use Rattle.std.proofs.Common.{◌≡◌, ℕ, zero, suc, ◌+◌, ◌*◌, ◌/◌, ◌%◌, ◌^◌, ◌<◌, ◌≤◌, T, ltb, ◌⊎◌, List, [], ◌∷◌, ◌++◌, length, get_or, take, set, sym, refl, ap, ◌∙◌, ap₂, inl, inr, ⊎_elim, add-zero, pow-suc, mul-zero, mul-one, arith, ltb→lt, length-take}
use lib.Bits.{bit_xor, xor_assoc, xor_comm, xor_self, xor_zero_r}
use lib.Count.{ones, ones_step, ones-ones}
use Rattle.std.proofs.lemmas.List.{set-get_or, take_more}
use Rattle.std.proofs.lemmas.Nat.{mul-le}
use Rattle.std.proofs.lemmas.Bool.{cases_lt}
use Rattle.codec.specs.Bits.{every, all_bytes, apart_bits, apart}
use Rattle.codec.specs.Mending.{column, places, mended, Mends}
use Rattle.codec.proofs.Marks.{both, bit}

-- x + (x + y) = y, (p + a) + (p + b) = a + b, (a + p) + (b + p) = a + b
pub xor_back : (x y : ℕ) → bit_xor x (bit_xor x y) ≡ y
xor_back x y = sym (xor_assoc x x y) ∙ ap (λ z. bit_xor z y) (xor_self x)

pub xor-left : (p a b : ℕ) → bit_xor (bit_xor p a) (bit_xor p b) ≡ bit_xor a b
xor-left p a b = ap (λ z. bit_xor z (bit_xor p b)) (xor_comm p a) ∙ xor_assoc a p (bit_xor p b) ∙ ap (bit_xor a) (xor_back p b)

pub xor_right : (p a b : ℕ) → bit_xor (bit_xor a p) (bit_xor b p) ≡ bit_xor a b
xor_right p a b = ap₂ bit_xor (xor_comm a p) (xor_comm b p) ∙ xor-left p a b

-- no bit apart: the same
pub bits_same : (n a b : ℕ) → a < 2 ^ n → b < 2 ^ n → apart_bits n a b ≡ 0 → a ≡ b
unfolding apart_bits
bits_same zero a b h k e = omega arith
bits_same (suc n) a b h k e =
    let s = bit (a % 2) (b % 2) in
    let ih = bits_same n (a / 2) (b / 2) (omega (arith, rw pow-suc at h)) (omega (arith, rw pow-suc at k)) (omega arith) in
    omega arith

pub all_same : (d r : List ℕ) → T (all_bytes d) → T (all_bytes r) → length d ≡ length r → apart d r ≡ 0 → d ≡ r
unfolding every apart
all_same [] [] hd hr l e = refl
all_same [] (y ∷ ys) hd hr l e = absurd (omega arith)
all_same (x ∷ xs) [] hd hr l e = absurd (omega arith)
all_same (x ∷ xs) (y ∷ ys) hd hr l e =
    let p = both (ltb x 256) (all_bytes xs) hd in
    let q = both (ltb y 256) (all_bytes ys) hr in
    ap₂ (λ (b : ℕ) (bs : List ℕ). b ∷ bs)
    (bits_same 8 x y (ltb→lt x 256 p.0) (ltb→lt y 256 q.0) (omega arith))
    (all_same xs ys p.1 q.1 (omega arith) (omega arith))

-- as many bits apart as ones in both, up to a multiple of 2
parity : (n a b : ℕ) → a < 2 ^ n → b < 2 ^ n → (ones a + ones b + apart_bits n a b) % 2 ≡ 0
unfolding apart_bits
parity zero a b h k =
    let e : a ≡ 0 = omega arith in
    let f : b ≡ 0 = omega arith in
    omega (arith, ap ones e ∙ ones-ones 0, ap ones f ∙ ones-ones 0)
parity (suc n) a b h k =
    let s = bit (a % 2) (b % 2) in
    let ih = parity n (a / 2) (b / 2) (omega (arith, rw pow-suc at h)) (omega (arith, rw pow-suc at k)) in
    omega (arith, ones_step a, ones_step b)

-- where two lists differ in one bit only
pub record One (k : ℕ) (d r : List ℕ) : Type 0 where
  pub at : ℕ
  pub place : bit_xor (places k d) (places k r) ≡ k + at
  pub turn : bit_xor (column d) (column r) ≡ bit_xor (get_or d at 0) (get_or r at 0)
  pub back : set r at (get_or d at 0) ≡ d

one_here : (k p q : ℕ) → (p % 2 + q % 2) ≡ 1 → bit_xor (k * (p % 2)) (k * (q % 2)) ≡ k
one_here k p q e =
    ⊎_elim
    (λ (z : p % 2 < 1). ap₂ (λ x y. bit_xor (k * x) (k * y)) (omega arith) (omega arith) ∙ ap₂ bit_xor (mul-zero k) (mul-one k))
    (λ (z : 1 ≤ p % 2). ap₂ (λ x y. bit_xor (k * x) (k * y)) (omega arith) (omega arith) ∙ ap₂ bit_xor (mul-one k) (mul-zero k) ∙ xor_zero_r k)
    (cases_lt (p % 2) 1)

find : (k : ℕ) (d r : List ℕ) → T (all_bytes d) → T (all_bytes r) → length d ≡ length r → apart d r ≤ 1 → (d ≡ r) ⊎ One k d r
unfolding every apart places column
find k [] [] hd hr l e = inl refl
find k [] (y ∷ ys) hd hr l e = absurd (omega arith)
find k (x ∷ xs) [] hd hr l e = absurd (omega arith)
find k (x ∷ xs) (y ∷ ys) hd hr l e =
    let p = both (ltb x 256) (all_bytes xs) hd in
    let q = both (ltb y 256) (all_bytes ys) hr in
    let lx = ltb→lt x 256 p.0 in
    let ly = ltb→lt y 256 q.0 in
    ⊎_elim
    (λ (z : apart_bits 8 x y < 1).
    let same : x ≡ y = bits_same 8 x y lx ly (omega arith) in
    ⊎_elim (λ t. inl (ap₂ (λ (b : ℕ) (bs : List ℕ). b ∷ bs) same t))
    (λ (t : One (suc k) xs ys). inr (record {
      at = suc t.at;
      place = ap (λ b. bit_xor (bit_xor (k * (ones b % 2)) (places (suc k) xs)) (bit_xor (k * (ones y % 2)) (places (suc k) ys))) same
          ∙ xor-left (k * (ones y % 2)) (places (suc k) xs) (places (suc k) ys) ∙ t.place ∙ omega arith;
      turn = ap (λ b. bit_xor (bit_xor b (column xs)) (bit_xor y (column ys))) same ∙ xor-left y (column xs) (column ys) ∙ t.turn;
      back = ap₂ (λ (b : ℕ) (bs : List ℕ). b ∷ bs) (sym same) t.back;
    }))
    (find (suc k) xs ys p.1 q.1 (omega arith) (omega arith)))
    (λ (z : 1 ≤ apart_bits 8 x y).
    let same : xs ≡ ys = all_same xs ys p.1 q.1 (omega arith) (omega arith) in
    let odd : ones x % 2 + ones y % 2 ≡ 1 = omega (arith, parity 8 x y lx ly) in
    inr (record {
      at = 0;
      place = ap (λ bs. bit_xor (bit_xor (k * (ones x % 2)) (places (suc k) bs)) (bit_xor (k * (ones y % 2)) (places (suc k) ys))) same
          ∙ xor_right (places (suc k) ys) (k * (ones x % 2)) (k * (ones y % 2)) ∙ one_here k (ones x) (ones y) odd ∙ omega arith;
      turn = ap (λ bs. bit_xor (bit_xor x (column bs)) (bit_xor y (column ys))) same ∙ xor_right (column ys) x y;
      back = ap (λ bs. x ∷ bs) (sym same);
    }))
    (cases_lt (apart_bits 8 x y) 1)

pub mends : Mends
unfolding mended
mends d r hd hr l e = ⊎_elim same other (find 0 d r hd hr l e)
  where
    same : d ≡ r → mended (column d) (places 0 d) r ≡ d
    same s =
        ap (λ y. set r (bit_xor (places 0 d) (places 0 r)) (bit_xor (get_or r (bit_xor (places 0 d) (places 0 r)) 0) y)) (ap (λ x. bit_xor (column x) (column r)) s ∙ xor_self (column r))
        ∙ ap (set r (bit_xor (places 0 d) (places 0 r))) (xor_zero_r (get_or r (bit_xor (places 0 d) (places 0 r)) 0))
        ∙ set-get_or r (bit_xor (places 0 d) (places 0 r)) 0 ∙ sym s

    other : One 0 d r → mended (column d) (places 0 d) r ≡ d
    other o =
        ap₂ (λ i y. set r i (bit_xor (get_or r i 0) y)) (o.place ∙ omega arith) o.turn
        ∙ ap (set r o.at) (ap (bit_xor (get_or r o.at 0)) (xor_comm (get_or d o.at 0) (get_or r o.at 0)) ∙ xor_back (get_or r o.at 0) (get_or d o.at 0))
        ∙ o.back

-- ---- a loop's step

column_push : (xs : List ℕ) (x : ℕ) → column (xs ++ x ∷ []) ≡ bit_xor (column xs) x
unfolding column
column_push [] x = xor_zero_r x
column_push (y ∷ ys) x = ap (bit_xor y) (column_push ys x) ∙ sym (xor_assoc y (column ys) x)

places_push : (k : ℕ) (xs : List ℕ) (x : ℕ) → places k (xs ++ x ∷ []) ≡ bit_xor (places k xs) ((k + length xs) * (ones x % 2))
unfolding places
places_push k [] x = xor_zero_r (k * (ones x % 2)) ∙ ap (λ n. n * (ones x % 2)) (sym (add-zero k))
places_push k (y ∷ ys) x =
    ap (bit_xor (k * (ones y % 2))) (places_push (suc k) ys x ∙ ap (λ n. bit_xor (places (suc k) ys) (n * (ones x % 2))) (omega arith))
    ∙ sym (xor_assoc (k * (ones y % 2)) (places (suc k) ys) ((k + suc (length ys)) * (ones x % 2)))

pub column_more : (s : List ℕ) (i : ℕ) → i < length s → column (take (i + 1) s) ≡ bit_xor (column (take i s)) (get_or s i 0)
column_more s i h = ap column (take_more s i 0 h) ∙ column_push (take i s) (get_or s i 0)

pub places_more : (s : List ℕ) (i : ℕ) → i < length s → places 0 (take (i + 1) s) ≡ bit_xor (places 0 (take i s)) (i * (ones (get_or s i 0) % 2))
places_more s i h =
    ap (places 0) (take_more s i 0 h) ∙ places_push 0 (take i s) (get_or s i 0)
    ∙ ap (λ n. bit_xor (places 0 (take i s)) (n * (ones (get_or s i 0) % 2))) (omega (arith, length-take i s))

pub times_bit : (i o n : ℕ) → i < n → i * (o % 2) < n
times_bit i o n h = omega (arith, mul-le i (o % 2) i 1 (omega arith) (omega arith))
