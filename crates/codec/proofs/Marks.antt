-- Marks: what is read within a bit of w's mark, off a page that was to hold v's, says that v is w.
-- Assumes nothing.
use Rattle.std.proofs.Common.{◌≡◌, ℕ, zero, suc, ◌+◌, ◌-◌, ◌*◌, ◌/◌, ◌%◌, ◌^◌, ◌<◌, ◌≤◌, Bool, true, false, cond, ◌&&◌, T, eqb, ltb, leb, ◌⊎◌, List, [], ◌∷◌, ◌++◌, length, refl, ap₂, inl, inr, ⊎_elim, zero-le, pow-suc, arith, ltb→lt, lt→ltb, leb→le, length-append}
use lib.ListN.{length-map}
use Rattle.std.proofs.lemmas.Bool.{cases_lt, leb-true, leb-false, eqb-true, eqb-false}
use Rattle.codec.specs.Bits.{every, all_bytes, apart_bits, apart, under_bits, under, turned, mark}
use Rattle.codec.specs.Marks.{MarkLength, MarksTold}

pub both : (a b : Bool) → T (a && b) → T a × T b
both true b h = (tt, h)
both false b h = absurd h

pub from_both : (a b : Bool) → T a → T b → T (a && b)
from_both true b h k = k
from_both false b h k = h

-- 0 where a test holds, and else 1
abbrev pub fails : Bool → ℕ
fails t = cond t 0 1

-- a bit's part in `apart_bits`
pub bit : (x y : ℕ) → ((fails (eqb x y) ≡ 0) × (x ≡ y)) ⊎ ((fails (eqb x y) ≡ 1) × (x ≡ y → ⊥))
bit x y = go (eqb x y) refl
  where
    go : (t : Bool) → eqb x y ≡ t → ((fails t ≡ 0) × (x ≡ y)) ⊎ ((fails t ≡ 1) × (x ≡ y → ⊥))
    go true e = inl (refl, eqb-true x y e)
    go false e = inr (refl, eqb-false x y e)

-- if no bit of b or c is another in r, and c has all ones of a, a is at most b
under_le : (n a b c r : ℕ) → a < 2 ^ n → T (under_bits n a c) → apart_bits n b r ≡ 0 → apart_bits n c r ≡ 0 → a ≤ b
unfolding under_bits apart_bits
under_le zero a b c r h u e f = omega arith
under_le (suc n) a b c r h u e f =
    let p = both (leb (a % 2) (c % 2)) (under_bits n (a / 2) (c / 2)) u in
    let hb = bit (b % 2) (r % 2) in
    let hc = bit (c % 2) (r % 2) in
    let half : a / 2 < 2 ^ n = omega (arith, rw pow-suc at h) in
    let ih = under_le n (a / 2) (b / 2) (c / 2) (r / 2) half p.1 (omega arith) (omega arith) in
    omega (arith, leb→le (a % 2) (c % 2) p.0)

-- how many bytes of v are above w's
over : ℕ → ℕ → ℕ
over x y = fails (leb x y)

overs : List ℕ → List ℕ → ℕ
overs [] ys = 0
overs (x ∷ xs) [] = 0
overs (x ∷ xs) (y ∷ ys) = over x y + overs xs ys

over_is : (x y : ℕ) → ((over x y ≡ 0) × (x ≤ y)) ⊎ ((over x y ≡ 1) × (y < x))
unfolding over
over_is x y = go (leb x y) refl
  where
    go : (t : Bool) → leb x y ≡ t → ((fails t ≡ 0) × (x ≤ y)) ⊎ ((fails t ≡ 1) × (y < x))
    go true e = inl (refl, leb-true x y e)
    go false e = inr (refl, leb-false x y e)

over_byte : (a b c r : ℕ) → a < 256 → T (under_bits 8 a c) → over a b ≤ apart_bits 8 b r + apart_bits 8 c r
over_byte a b c r h u =
    let o = over_is a b in
    ⊎_elim
    (λ (p : 0 < apart_bits 8 b r + apart_bits 8 c r). omega arith)
    (λ (z : apart_bits 8 b r + apart_bits 8 c r ≤ 0). let k = under_le 8 a b c r h u (omega arith) (omega arith) in omega arith)
    (cases_lt 0 (apart_bits 8 b r + apart_bits 8 c r))

overs_apart : (v w c r : List ℕ) → T (all_bytes v) → T (under v c) → overs v w ≤ apart w r + apart c r
unfolding overs under apart every
overs_apart [] w c r a u = zero-le
overs_apart (x ∷ xs) [] c r a u = zero-le
overs_apart (x ∷ xs) (y ∷ ys) [] r a u = absurd u
overs_apart (x ∷ xs) (y ∷ ys) (z ∷ zs) [] a u =
    let ih = overs_apart xs ys zs [] (both (ltb x 256) (all_bytes xs) a).1 (both (under_bits 8 x z) (under xs zs) u).1 in
    omega (arith, over_is x y)
overs_apart (x ∷ xs) (y ∷ ys) (z ∷ zs) (r ∷ rs) a u =
    let p = both (ltb x 256) (all_bytes xs) a in
    let q = both (under_bits 8 x z) (under xs zs) u in
    let ih = overs_apart xs ys zs rs p.1 q.1 in
    omega (arith, over_byte x y z r (ltb→lt x 256 p.0) q.0)

overs_append : (a b c d : List ℕ) → length a ≡ length b → overs (a ++ c) (b ++ d) ≡ overs a b + overs c d
unfolding overs
overs_append [] [] c d e = omega arith
overs_append [] (y ∷ b) c d e = absurd (omega arith)
overs_append (x ∷ a) [] c d e = absurd (omega arith)
overs_append (x ∷ a) (y ∷ b) c d e = let ih = overs_append a b c d (omega arith) in omega arith

none_over : (v w : List ℕ) → T (all_bytes w) → length v ≡ length w → overs v w ≡ 0 → overs (turned v) (turned w) ≡ 0 → v ≡ w
unfolding overs every
none_over [] [] a l e f = refl
none_over [] (y ∷ w) a l e f = absurd (omega arith)
none_over (x ∷ v) [] a l e f = absurd (omega arith)
none_over (x ∷ v) (y ∷ w) a l e f =
    let p = both (ltb y 256) (all_bytes w) a in
    let lt = ltb→lt y 256 p.0 in
    let h = over_is x y in
    let k = over_is (255 - x) (255 - y) in
    ap₂ (λ (b : ℕ) (bs : List ℕ). b ∷ bs) (omega arith) (none_over v w p.1 (omega arith) (omega arith) (omega arith))

pub mark-length : MarkLength
mark-length v = simp (length-append, length-map) (omega arith)

pub all_append : (a b : List ℕ) → T (all_bytes a) → T (all_bytes b) → T (all_bytes (a ++ b))
unfolding every
all_append [] b h k = k
all_append (x ∷ a) b h k =
    let p = both (ltb x 256) (all_bytes a) h in from_both (ltb x 256) (all_bytes (a ++ b)) p.0 (all_append a b p.1 k)

all-turned : (v : List ℕ) → T (all_bytes (turned v))
unfolding every
all-turned [] = tt
all-turned (x ∷ v) = from_both (ltb (255 - x) 256) (all_bytes (turned v)) (lt→ltb (255 - x) 256 (omega arith)) (all-turned v)

overs_mark : (v w : List ℕ) → length v ≡ length w → overs (mark v) (mark w) ≡ 3 * overs v w + 3 * overs (turned v) (turned w)
overs_mark v w e =
    let f : length (turned v) ≡ length (turned w) = simp length-map e in
    simp overs_append (omega arith)

pub marks_told : MarksTold
marks_told v w c r av aw ac ar lv lw u lr hc hw =
    let t = all-turned v in
    let all : T (all_bytes (mark v)) =
    all_append v _ av (all_append v _ av (all_append v _ av (all_append (turned v) _ t (all_append (turned v) _ t t)))) in
    let k = overs_apart (mark v) (mark w) c r all u in
    let e : length v ≡ length w = omega arith in
    let m = overs_mark v w e in
    none_over v w aw e (omega arith) (omega arith)
