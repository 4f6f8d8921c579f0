-- Bits that are turned over or raised. Assumes nothing.
use Rattle.std.proofs.Common.{◌≡◌, ℕ, zero, suc, ◌+◌, ◌*◌, ◌/◌, ◌%◌, ◌^◌, ◌<◌, ◌≤◌, Bool, true, false, cond, ◌&&◌, T, eqb, ltb, leb, List, [], ◌∷◌, length, get_or, take, drop, set, sym, refl, ap, ◌∙◌, subst, ap₂, inl, inr, Fits, w8, pow-suc, rules, arith, le→leb, lt→ltb}
use lib.Bits.{bit_or, bit_xor, or_step, xor_mod, xor_shr, xor_zero_r}
use lib.Seq.{take-set-lt}
use Rattle.std.proofs.lemmas.List.{get_or-drop, get_or-take, drop-drop, drop-set-lt, drop-set-add, take-set-le, get_or-set_same, get_or-set_other}
use Rattle.std.proofs.lemmas.Bool.{cases_eq, cases_lt, eq-eqb}
use Rattle.drive.specs.Bits.{every, all_bytes, apart_bits, apart, nearly, under_bits, under}
use Rattle.bench.specs.Pieces.{piece_at}
use Rattle.bench.proofs.Slots.{front_part}

from_both : (a b : Bool) → T a → T b → T (a && b)
from_both true b h k = k
from_both false b h k = h

-- bytes are below 256
pub all_fit : (s : List ℕ) → ((i : ℕ) → Fits w8 (get_or s i 0)) → T (all_bytes s)
unfolding every
all_fit [] h = tt
all_fit (x ∷ s) h = from_both (ltb x 256) (all_bytes s) (lt→ltb x 256 (let f = h 0 in let g : x < 256 = search rules in g)) (all_fit s (λ i. h (suc i)))

-- ---- raised

raised_bits : (n a m : ℕ) → T (under_bits n a (bit_or a m))
unfolding under_bits
raised_bits zero a m = tt
raised_bits (suc n) a m =
    let s = or_step a m in
    let half : bit_or a m / 2 ≡ bit_or (a / 2) (m / 2) = omega arith in
    from_both (leb (a % 2) (bit_or a m % 2)) (under_bits n (a / 2) (bit_or a m / 2)) (le→leb (a % 2) (bit_or a m % 2) (omega arith))
    (subst (λ x. T (under_bits n (a / 2) x)) (sym half) (raised_bits n (a / 2) (m / 2)))

-- one byte further
pub raise_more : (i m : ℕ) (old page : List ℕ) → i < length page
    → ((k : ℕ) → k < i → T (under_bits 8 (get_or old k 0) (get_or page k 0))) × ((k : ℕ) → i ≤ k → get_or page k 0 ≡ get_or old k 0)
    → ((k : ℕ) → k < i + 1 → T (under_bits 8 (get_or old k 0) (get_or (set page i (bit_or (get_or page i 0) m)) k 0)))
    × ((k : ℕ) → i + 1 ≤ k → get_or (set page i (bit_or (get_or page i 0) m)) k 0 ≡ get_or old k 0)
raise_more i m old page h (low, high) = (
  λ k l. elim (cases_eq k i) [
    | inl e ↦
        let here : get_or (set page i (bit_or (get_or page i 0) m)) k 0 ≡ bit_or (get_or old k 0) m =
        ap (λ (j : ℕ). get_or (set page i (bit_or (get_or page i 0) m)) j 0) e ∙ get_or-set_same page i (bit_or (get_or page i 0) m) 0 h
        ∙ ap (λ (x : ℕ). bit_or x m) (high i (omega arith)) ∙ ap (λ (j : ℕ). bit_or (get_or old j 0) m) (sym e) in
        subst (λ x. T (under_bits 8 (get_or old k 0) x)) (sym here) (raised_bits 8 (get_or old k 0) m)
    | inr ne ↦ subst (λ x. T (under_bits 8 (get_or old k 0) x)) (sym (get_or-set_other page i k (bit_or (get_or page i 0) m) 0 ne)) (low k (omega arith))
  ],
  λ k l. get_or-set_other page i k (bit_or (get_or page i 0) m) 0 (omega arith) ∙ high k (omega arith),
)

pub under_each : (a b : List ℕ) → length b ≡ length a → ((k : ℕ) → k < length a → T (under_bits 8 (get_or a k 0) (get_or b k 0))) → T (under a b)
unfolding under
under_each [] [] l h = tt
under_each [] (y ∷ b) l h = absurd (omega arith)
under_each (x ∷ a) [] l h = absurd (omega arith)
under_each (x ∷ a) (y ∷ b) l h = from_both (under_bits 8 x y) (under a b) (h 0 (omega arith)) (under_each a b (omega arith) (λ k j. h (suc k) (omega arith)))

-- ---- turned over

same_bits : (n a : ℕ) → apart_bits n a a ≡ 0
unfolding apart_bits
same_bits zero a = refl
same_bits (suc n) a =
    let one : Bool → ℕ = λ t. cond t 0 1 in
    omega (arith, ap one (eq-eqb (a % 2) (a % 2) refl), same_bits n (a / 2))

turned_bit : (n a j : ℕ) → apart_bits n a (bit_xor a (2 ^ j)) ≤ 1
unfolding apart_bits
turned_bit zero a j = omega arith
turned_bit (suc n) a zero =
    let half : bit_xor a 1 / 2 ≡ a / 2 = xor_shr a 1 1 ∙ xor_zero_r (a / 2) in
    let rest : apart_bits n (a / 2) (bit_xor a 1 / 2) ≡ 0 = ap (apart_bits n (a / 2)) half ∙ same_bits n (a / 2) in
    omega (arith, at_most (eqb (a % 2) (bit_xor a 1 % 2)))
  where
    at_most : (t : Bool) → cond t 0 1 ≤ 1
    at_most true = omega arith
    at_most false = omega arith
turned_bit (suc n) a (suc j) =
    let p = pow-suc 2 j in
    let half : bit_xor a (2 ^ suc j) / 2 ≡ bit_xor (a / 2) (2 ^ j) = xor_shr a (2 ^ suc j) 1 ∙ ap (bit_xor (a / 2)) (omega arith) in
    let low : bit_xor a (2 ^ suc j) % 2 ≡ a % 2 = xor_mod a (2 ^ suc j) 1 ∙ ap (bit_xor (a % 2)) (omega arith) ∙ xor_zero_r (a % 2) in
    let one : Bool → ℕ = λ t. cond t 0 1 in
    let here = ap one (eq-eqb (a % 2) (bit_xor a (2 ^ suc j) % 2) (sym low)) in
    omega (arith, ap (apart_bits n (a / 2)) half, turned_bit n (a / 2) j)

same-apart : (a : List ℕ) → apart a a ≡ 0
unfolding apart
same-apart [] = refl
same-apart (x ∷ a) = omega (arith, same_bits 8 x, same-apart a)

set_apart : (a : List ℕ) (i j : ℕ) → apart a (set a i (bit_xor (get_or a i 0) (2 ^ j))) ≤ 1
unfolding apart
set_apart [] i j = omega arith
set_apart (x ∷ a) zero j = omega (arith, turned_bit 8 x j, same-apart a)
set_apart (x ∷ a) (suc i) j = omega (arith, same_bits 8 x, set_apart a i j)

-- a piece in which one bit was turned over, and another
pub turned_here : (page : List ℕ) (piece index bit v : ℕ) → 256 * piece + 256 ≤ length page → index < 256 → v ≡ bit_xor (get_or page (256 * piece + index) 0) (2 ^ bit)
    → apart (piece_at page piece) (piece_at (set page (256 * piece + index) v) piece) ≤ 1
turned_here page piece index bit v h l e =
    let rest = drop (256 * piece) page in
    let first : get_or page (256 * piece + index) 0 ≡ get_or (take 256 rest) index 0 = sym (get_or-take 256 rest index 0 l ∙ get_or-drop (256 * piece) page index 0) in
    let is : piece_at (set page (256 * piece + index) v) piece ≡ set (piece_at page piece) index (bit_xor (get_or (piece_at page piece) index 0) (2 ^ bit)) =
    ap (take 256) (drop-set-add (256 * piece) page index v) ∙ take-set-lt 256 rest index v l ∙ ap (set (take 256 rest) index) (e ∙ ap (λ (x : ℕ). bit_xor x (2 ^ bit)) first) in
    subst (λ (x : List ℕ). apart (piece_at page piece) x ≤ 1) (sym is) (set_apart (piece_at page piece) index bit)

pub turned_other : (page : List ℕ) (piece index v j : ℕ) → index < 256 → (j ≡ piece → ⊥) → piece_at (set page (256 * piece + index) v) j ≡ piece_at page j
turned_other page piece index v j l ne =
    elim (cases_lt j piece) [
      | inl lt ↦ front_part (256 * j) 256 (set page (256 * piece + index) v) page (take-set-le (256 * j + 256) page (256 * piece + index) v (omega arith))
      | inr ge ↦ ap (take 256) (drop-set-lt (256 * j) page (256 * piece + index) v (omega arith))
    ]

pub nearly_each : (n : ℕ) (a b : List ℕ) → ((j : ℕ) → j < n → apart (piece_at a j) (piece_at b j) ≤ 1) → T (nearly n 1 a b)
unfolding nearly
nearly_each zero a b h = tt
nearly_each (suc n) a b h =
    let later : (s : List ℕ) (j : ℕ) → piece_at (drop 256 s) j ≡ piece_at s (suc j) = λ s j. ap (take 256) (drop-drop (256 * j) 256 s ∙ ap (λ (m : ℕ). drop m s) (omega arith)) in
    from_both (leb (apart (take 256 a) (take 256 b)) 1) (nearly n 1 (drop 256 a) (drop 256 b)) (le→leb _ 1 (h 0 (omega arith)))
    (nearly_each n (drop 256 a) (drop 256 b) (λ j l. subst (λ (x : ℕ). x ≤ 1) (sym (ap₂ apart (later a j) (later b j))) (h (suc j) (omega arith))))

-- one piece further, with a bit turned over in it or not
pub turned_more : (i : ℕ) (old page next page' : List ℕ) → page' ≡ next
    → ((j : ℕ) → j < i → apart (piece_at old j) (piece_at page j) ≤ 1) → ((j : ℕ) → i ≤ j → piece_at page j ≡ piece_at old j)
    → apart (piece_at page i) (piece_at next i) ≤ 1 → ((j : ℕ) → (j ≡ i → ⊥) → piece_at next j ≡ piece_at page j)
    → ((j : ℕ) → j < i + 1 → apart (piece_at old j) (piece_at page' j) ≤ 1) × ((j : ℕ) → i + 1 ≤ j → piece_at page' j ≡ piece_at old j)
turned_more i old page next page' e low high here others = (
  λ j l. elim (cases_eq j i) [
    | inl s ↦
        let first : apart (piece_at old i) (piece_at page' i) ≡ apart (piece_at page i) (piece_at next i) = ap₂ apart (sym (high i (omega arith))) (ap (λ (x : List ℕ). piece_at x i) e) in
        let moved : apart (piece_at old j) (piece_at page' j) ≡ apart (piece_at old i) (piece_at page' i) = ap (λ (k : ℕ). apart (piece_at old k) (piece_at page' k)) s in
        omega arith
    | inr ne ↦
        let same : apart (piece_at old j) (piece_at page' j) ≡ apart (piece_at old j) (piece_at page j) = ap (apart (piece_at old j)) (ap (λ (x : List ℕ). piece_at x j) e ∙ others j ne) in
        omega (arith, low j (omega arith))
  ],
  λ j l. ap (λ (x : List ℕ). piece_at x j) e ∙ others j (omega arith) ∙ high j (omega arith),
)

pub same_piece : (page : List ℕ) (i : ℕ) → apart (piece_at page i) (piece_at page i) ≤ 1
same_piece page i = omega (arith, same-apart (piece_at page i))
