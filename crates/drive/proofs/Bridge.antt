-- The two copies of the definitions on bits, this crate's and codec's, agree; so what codec proves of its pages holds here. Assumes nothing.
use Rattle.std.proofs.Common.{◌≡◌, ℕ, zero, suc, ◌+◌, ◌/◌, ◌%◌, ◌≤◌, Bool, cond, ◌&&◌, T, eqb, leb, List, [], ◌∷◌, take, drop, sym, refl, ap, subst, ap₂}
use Rattle.drive.specs.Bits as D
use Rattle.codec.specs.Bits as C
use Rattle.drive.specs.Promise.{MarksTold}
use Rattle.codec.proofs.Marks.{marks_told}
use Rattle.codec.proofs.Pages.{page_told, torn_told, blank_told}
use Rattle.codec.specs.Pages.{paged}
use Rattle.drive.specs.Nand.{blank, written, torn}
use Rattle.drive.specs.Shown.{Tells, WrittenShown, TornShown, BlankShown}

pub every_is : {A : Type 0} (f : A → Bool) (s : List A) → D.every f s ≡ C.every f s
unfolding D.every C.every
every_is f [] = refl
every_is f (x ∷ s) = ap (λ t. f x && t) (every_is f s)

apart_bits_is : (n a b : ℕ) → D.apart_bits n a b ≡ C.apart_bits n a b
unfolding D.apart_bits C.apart_bits
apart_bits_is zero a b = refl
apart_bits_is (suc n) a b = ap (λ t. cond (eqb (a % 2) (b % 2)) 0 1 + t) (apart_bits_is n (a / 2) (b / 2))

pub apart_is : (a b : List ℕ) → D.apart a b ≡ C.apart a b
unfolding D.apart C.apart
apart_is [] [] = refl
apart_is [] (y ∷ b) = ap (λ t. 8 + t) (apart_is [] b)
apart_is (x ∷ a) [] = ap (λ t. 8 + t) (apart_is a [])
apart_is (x ∷ a) (y ∷ b) = ap₂ (λ s t. s + t) (apart_bits_is 8 x y) (apart_is a b)

pub nearly_is : (n k : ℕ) (a b : List ℕ) → D.nearly n k a b ≡ C.nearly n k a b
unfolding D.nearly C.nearly
nearly_is zero k a b = refl
nearly_is (suc n) k a b = ap₂ (λ s t. leb s k && t) (apart_is (take 256 a) (take 256 b)) (nearly_is n k (drop 256 a) (drop 256 b))

under_bits_is : (n a b : ℕ) → D.under_bits n a b ≡ C.under_bits n a b
unfolding D.under_bits C.under_bits
under_bits_is zero a b = refl
under_bits_is (suc n) a b = ap (λ t. leb (a % 2) (b % 2) && t) (under_bits_is n (a / 2) (b / 2))

pub under_is : (a b : List ℕ) → D.under a b ≡ C.under a b
unfolding D.under C.under
under_is [] [] = refl
under_is [] (y ∷ b) = refl
under_is (x ∷ a) [] = refl
under_is (x ∷ a) (y ∷ b) = ap₂ (λ s t. s && t) (under_bits_is 8 x y) (under_is a b)

pub marks_told_here : MarksTold
marks_told_here v w c r hv hw hc hr lv lw u lr e f =
    marks_told v w c r (subst T (every_is _ v) hv) (subst T (every_is _ w) hw) (subst T (every_is _ c) hc) (subst T (every_is _ r) hr) lv lw
    (subst T (under_is (D.mark v) c) u) lr (subst (λ n. n ≤ 1) (apart_is c r) e) (subst (λ n. n ≤ 1) (apart_is (D.mark w) r) f)

-- ---- what is read of a sealed page

all : (s : List ℕ) → T (D.all_bytes s) → T (C.all_bytes s)
all s h = subst T (every_is _ s) h

near : (w r : List ℕ) → Tells r w → C.apart (C.mark w) (take 192 (drop 4096 r)) ≤ 1
near w r h = subst (λ n. n ≤ 1) (apart_is (D.mark w) (take 192 (drop 4096 r))) h

pub shown_written : WrittenShown
shown_written v d r hv hd lv ld (written b s lr hr n) =
    let p = page_told v d r (all v hv) (all d hd) (all r hr) lv ld lr (subst T (nearly_is 17 1 (paged v d) r) n) in
    (p.0, p.1, subst (λ n. n ≤ 1) (sym (apart_is (D.mark v) (take 192 (drop 4096 r)))) p.2)

pub shown_torn : TornShown
shown_torn v d w r hv hw lv lw ld (torn b c s u hc lr hr n) t =
    torn_told v d w c r (all v hv) (all w hw) (all c hc) (all r hr) lv lw ld lr (subst T (under_is (paged v d) c) u) (subst T (nearly_is 17 1 c r) n) (near w r t)

pub shown_blank_lem : BlankShown
shown_blank_lem w r hw lw (blank s lr hr n) t = blank_told w r (all w hw) (all r hr) lw lr (subst T (nearly_is 17 1 _ r) n) (near w r t)
