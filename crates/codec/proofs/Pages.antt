-- A page that was written is read back. Assumes nothing.
use Rattle.std.proofs.Common.{◌≡◌, ℕ, zero, suc, ◌+◌, ◌*◌, ◌%◌, ◌<◌, ◌≤◌, Bool, true, false, cond, T, eqb, ltb, leb, List, [], ◌∷◌, ◌++◌, length, get_or, take, drop, set, replicate, sym, refl, ap, ◌∙◌, subst, ap₂, ⊎_elim, zero-le, arith, eqb→eq, ltb→lt, lt→ltb, leb→le, length-append, length-drop, take-append-drop, length-take}
use lib.Bits.{bit_xor, xor_self, xor_lt, xor_zero_r}
use lib.Count.{ones}
use lib.Dec.{eqb_refl}
use Rattle.std.proofs.lemmas.List.{set-get_or, nil_from_length, take-append-le, drop-append-le, drop-drop, get_or-drop, drop_at, take_all, length-replicate}
use Rattle.std.proofs.lemmas.Bool.{cases_lt}
use Rattle.codec.specs.Bits.{every, all_bytes, apart_bits, apart, nearly, under_bits, under, same, turned, mark}
use Rattle.codec.specs.Mending.{column, places, mended}
use Rattle.codec.specs.Pages.{checks, guarded, rest, paged, repaired, checks_in, mark_in, data_in, PageTold, TornTold, BlankTold}
use Rattle.codec.proofs.Marks.{both, from_both, mark-length, marks_told}
use Rattle.codec.proofs.Mending.{bits_same, all_same, mends, times_bit}

-- ---- bytes

pub all_take : (n : ℕ) (s : List ℕ) → T (all_bytes s) → T (all_bytes (take n s))
unfolding every
all_take zero s h = tt
all_take (suc n) [] h = tt
all_take (suc n) (x ∷ s) h = let p = both (ltb x 256) (all_bytes s) h in from_both (ltb x 256) (all_bytes (take n s)) p.0 (all_take n s p.1)

pub all_drop : (n : ℕ) (s : List ℕ) → T (all_bytes s) → T (all_bytes (drop n s))
unfolding every
all_drop zero s h = h
all_drop (suc n) [] h = tt
all_drop (suc n) (x ∷ s) h = all_drop n s (both (ltb x 256) (all_bytes s) h).1

pub all_at : (i : ℕ) (s : List ℕ) → T (all_bytes s) → get_or s i 0 < 256
unfolding every
all_at i [] h = omega arith
all_at zero (x ∷ s) h = ltb→lt x 256 (both (ltb x 256) (all_bytes s) h).0
all_at (suc i) (x ∷ s) h = all_at i s (both (ltb x 256) (all_bytes s) h).1

pub column_lt : (s : List ℕ) → T (all_bytes s) → column s < 256
unfolding every column
column_lt [] h = omega arith
column_lt (x ∷ s) h = let p = both (ltb x 256) (all_bytes s) h in xor_lt 8 x (column s) (ltb→lt x 256 p.0) (column_lt s p.1)

pub places_lt : (k : ℕ) (s : List ℕ) → k + length s ≤ 256 → places k s < 256
unfolding places
places_lt k [] h = omega arith
places_lt k (x ∷ s) h = xor_lt 8 (k * (ones x % 2)) (places (suc k) s) (times_bit k (ones x) 256 (omega arith)) (places_lt (suc k) s (omega arith))

-- ---- one list after another

pub apart_split : (n : ℕ) (a b r : List ℕ) → length a ≡ n → n ≤ length r → apart (a ++ b) r ≡ apart a (take n r) + apart b (drop n r)
unfolding apart
apart_split zero [] b r e h = omega arith
apart_split zero (x ∷ a) b r e h = absurd (omega arith)
apart_split (suc n) [] b r e h = absurd (omega arith)
apart_split (suc n) (x ∷ a) b [] e h = absurd (omega arith)
apart_split (suc n) (x ∷ a) b (y ∷ r) e h = let ih = apart_split n a b r (omega arith) (omega arith) in omega arith

pub under_drop : (n : ℕ) (a b c : List ℕ) → length a ≡ n → T (under (a ++ b) c) → T (under b (drop n c))
unfolding under
under_drop zero [] b c e h = h
under_drop zero (x ∷ a) b c e h = absurd (omega arith)
under_drop (suc n) [] b c e h = absurd (omega arith)
under_drop (suc n) (x ∷ a) b [] e h = absurd h
under_drop (suc n) (x ∷ a) b (y ∷ c) e h = under_drop n a b c (omega arith) (both (under_bits 8 x y) (under (a ++ b) c) h).1

pub under-take : (n : ℕ) (a b c : List ℕ) → length a ≡ n → T (under (a ++ b) c) → T (under a (take n c))
unfolding under
under-take zero [] b c e h = tt
under-take zero (x ∷ a) b c e h = absurd (omega arith)
under-take (suc n) [] b c e h = absurd (omega arith)
under-take (suc n) (x ∷ a) b [] e h = absurd h
under-take (suc n) (x ∷ a) b (y ∷ c) e h =
    let p = both (under_bits 8 x y) (under (a ++ b) c) h in from_both (under_bits 8 x y) (under a (take n c)) p.0 (under-take n a b c (omega arith) p.1)

pub under-length : (a c : List ℕ) → T (under a c) → length a ≡ length c
unfolding under
under-length [] [] h = refl
under-length [] (y ∷ c) h = absurd h
under-length (x ∷ a) [] h = absurd h
under-length (x ∷ a) (y ∷ c) h = ap suc (under-length a c (both (under_bits 8 x y) (under a c) h).1)

-- the pieces of the front, and the piece behind it
pub nearly_last : (n k : ℕ) (a r : List ℕ) → T (nearly (suc n) k a r) → apart (take 256 (drop (256 * n) a)) (take 256 (drop (256 * n) r)) ≤ k
unfolding nearly
nearly_last zero k a r h = leb→le (apart (take 256 a) (take 256 r)) k (both (leb (apart (take 256 a) (take 256 r)) k) true h).0
nearly_last (suc n) k a r h =
    let ih = nearly_last n k (drop 256 a) (drop 256 r) (both (leb (apart (take 256 a) (take 256 r)) k) (nearly (suc n) k (drop 256 a) (drop 256 r)) h).1 in
    let e : 256 + 256 * n ≡ 256 * suc n = omega arith in
    let da = drop-drop (256 * n) 256 a ∙ ap (λ m. drop m a) e in
    let dr = drop-drop (256 * n) 256 r ∙ ap (λ m. drop m r) e in
    subst (λ x. apart (take 256 x) (take 256 (drop (256 * suc n) r)) ≤ k) da (subst (λ x. apart (take 256 (drop (256 * n) (drop 256 a))) (take 256 x) ≤ k) dr ih)

pub nearly_front : (n k : ℕ) (d t r : List ℕ) → length d ≡ 256 * n → T (nearly (suc n) k (d ++ t) r) → T (nearly n k d r)
unfolding nearly
nearly_front zero k d t r l h = tt
nearly_front (suc n) k d t r l h =
    let le : 256 ≤ length d = omega arith in
    let p = both (leb (apart (take 256 (d ++ t)) (take 256 r)) k) (nearly (suc n) k (drop 256 (d ++ t)) (drop 256 r)) h in
    let q = subst (λ x. T (nearly (suc n) k x (drop 256 r))) (drop-append-le 256 d t le) p.1 in
    from_both (leb (apart (take 256 d) (take 256 r)) k) (nearly n k (drop 256 d) (drop 256 r))
    (subst (λ x. T (leb (apart x (take 256 r)) k)) (take-append-le 256 d t le) p.0)
    (nearly_front n k (drop 256 d) t (drop 256 r) (omega (arith, length-drop 256 d)) q)

-- n pieces are mended
repaired_is : (n : ℕ) (d r : List ℕ) → T (all_bytes d) → T (all_bytes r) → length d ≡ 256 * n → 256 * n ≤ length r → T (nearly n 1 d r) → repaired n (checks n d) r ≡ d
unfolding repaired checks nearly
repaired_is zero d r hd hr l k h = sym (nil_from_length d (omega arith))
repaired_is (suc n) d r hd hr l k h =
    let p = both (leb (apart (take 256 d) (take 256 r)) 1) (nearly n 1 (drop 256 d) (drop 256 r)) h in
    ap₂ (λ (a b : List ℕ). a ++ b)
    (mends (take 256 d) (take 256 r) (all_take 256 d hd) (all_take 256 r hr) (omega (arith, length-take 256 d, length-take 256 r)) (leb→le (apart (take 256 d) (take 256 r)) 1 p.0))
    (repaired_is n (drop 256 d) (drop 256 r) (all_drop 256 d hd) (all_drop 256 r hr) (omega (arith, length-drop 256 d)) (omega (arith, length-drop 256 r)) p.1)
    ∙ take-append-drop 256 d

-- ---- the checks, which stand with the mark in one piece

length-checks : (n : ℕ) (d : List ℕ) → length (checks n d) ≡ 2 * n
unfolding checks
length-checks zero d = refl
length-checks (suc n) d = omega (arith, length-checks n (drop 256 d))

all-checks : (n : ℕ) (d : List ℕ) → T (all_bytes d) → T (all_bytes (checks n d))
unfolding every checks
all-checks zero d h = tt
all-checks (suc n) d h =
    let c = column (take 256 d) in
    let p = places 0 (take 256 d) in
    let k = checks n (drop 256 d) in
    from_both (ltb c 256) (all_bytes (p ∷ k)) (lt→ltb c 256 (column_lt (take 256 d) (all_take 256 d h)))
    (from_both (ltb p 256) (all_bytes k) (lt→ltb p 256 (places_lt 0 (take 256 d) (omega (arith, length-take 256 d)))) (all-checks n (drop 256 d) (all_drop 256 d h)))

-- where the column is 0, nothing is changed, whatever the places are told to be
whole : (h : ℕ) (b : List ℕ) → column b ≡ 0 → mended 0 h b ≡ b
unfolding mended
whole h b e =
    let i = bit_xor h (places 0 b) in
    ap (λ x. set b i (bit_xor (get_or b i 0) x)) e ∙ ap (set b i) (xor_zero_r (get_or b i 0)) ∙ set-get_or b i 0

-- b with its places behind it: one bit of all is another
guarded_is : (h : ℕ) (b r : List ℕ) → column b ≡ 0 → T (all_bytes b) → T (all_bytes r) → length b ≡ length r → places 0 b < 256 → h < 256 → apart b r + apart_bits 8 (places 0 b) h ≤ 1 → mended 0 h r ≡ b
guarded_is h b r z hb hr l lp lh e =
    ⊎_elim
    (λ (t : apart b r < 1). let s = all_same b r hb hr l (omega arith) in ap (mended 0 h) (sym s) ∙ whole h b z)
    (λ (t : 1 ≤ apart b r).
    let s = bits_same 8 (places 0 b) h lp lh (omega arith) in
    ap₂ (λ x y. mended x y r) (sym z) (sym s) ∙ mends b r hb hr l (omega arith))
    (cases_lt (apart b r) 1)

apart_head : (x : ℕ) (xs u : List ℕ) → 0 < length u → apart_bits 8 x (get_or u 0 0) ≤ apart (x ∷ xs) u
unfolding apart
apart_head x xs [] h = absurd (omega arith)
apart_head x xs (y ∷ u) h = omega arith

apart-take : (n : ℕ) (a b : List ℕ) → apart (take n a) (take n b) ≤ apart a b
unfolding apart
apart-take zero a b = zero-le
apart-take (suc n) [] [] = zero-le
apart-take (suc n) [] (y ∷ b) = omega (arith, apart-take n [] b, ap (λ x. apart x (take n b)) (take_all n [] zero-le))
apart-take (suc n) (x ∷ a) [] = omega (arith, apart-take n a [], ap (apart (take n a)) (take_all n [] zero-le))
apart-take (suc n) (x ∷ a) (y ∷ b) = omega (arith, apart-take n a b)

length-guarded : (d : List ℕ) → length (guarded d) ≡ 33
unfolding guarded
length-guarded d = omega (arith, length-checks 16 d)

checks_told : (v d t : List ℕ) → T (all_bytes d) → T (all_bytes t) → length v ≡ 32 → length t ≡ 256 → apart (mark v ++ rest d) t ≤ 1
    → (apart (mark v) (take 192 t) ≤ 1) × (checks_in t ≡ checks 16 d)
unfolding rest checks_in
checks_told v d t hd ht lv lt e =
    let lm : length (mark v) ≡ 192 = omega (arith, mark-length v) in
    let lg = length-guarded d in
    let l2 = length-drop 192 t in
    let l3 = length-drop 33 (drop 192 t) in
    let u = drop 192 t in
    let p = places 0 (guarded d) in
    let s1 = apart_split 192 (mark v) (rest d) t lm (omega arith) in
    let s2 = apart_split 33 (guarded d) (p ∷ replicate 30 255) u lg (omega arith) in
    let s3 = apart_head p (replicate 30 255) (drop 33 u) (omega arith) in
    let g : get_or (drop 33 u) 0 0 ≡ get_or t 225 0 = get_or-drop 33 u 0 0 ∙ get_or-drop 192 t 33 0 in
    let s4 : apart_bits 8 p (get_or t 225 0) ≤ apart (p ∷ replicate 30 255) (drop 33 u) = subst (λ x. apart_bits 8 p x ≤ apart (p ∷ replicate 30 255) (drop 33 u)) g s3 in
    let m = guarded_is (get_or t 225 0) (guarded d) (take 33 u) (zero-column d) (all-guarded d hd) (all_take 33 u (all_drop 192 t ht))
    (omega (arith, length-take 33 u)) (places_lt 0 (guarded d) (omega arith)) (all_at 225 t ht) (omega arith) in
    (omega arith, ap (drop 1) m ∙ behind d)
  where
    zero-column : (d : List ℕ) → column (guarded d) ≡ 0
    zero-column d = unfold guarded column in xor_self (column (checks 16 d))

    all-guarded : (d : List ℕ) → T (all_bytes d) → T (all_bytes (guarded d))
    all-guarded d hd =
        unfold guarded every in
        from_both (ltb (column (checks 16 d)) 256) (all_bytes (checks 16 d)) (lt→ltb (column (checks 16 d)) 256 (column_lt (checks 16 d) (all-checks 16 d hd))) (all-checks 16 d hd)

    behind : (d : List ℕ) → drop 1 (guarded d) ≡ checks 16 d
    behind d = unfold guarded in refl

-- ---- the mark

pub same_is : (a b : List ℕ) → T (same a b) → a ≡ b
unfolding same
same_is [] [] h = refl
same_is [] (y ∷ b) h = absurd h
same_is (x ∷ a) [] h = absurd h
same_is (x ∷ a) (y ∷ b) h = let p = both (eqb x y) (same a b) h in ap₂ (λ (c : ℕ) (cs : List ℕ). c ∷ cs) (eqb→eq x y p.0) (same_is a b p.1)

pub same_refl : (a : List ℕ) → T (same a a)
unfolding same
same_refl [] = tt
same_refl (x ∷ a) = from_both (eqb x x) (same a a) (eqb_refl x) (same_refl a)

-- the third, unless the first two are one: of three of which at most one is another than v
picked : (v a b c : List ℕ) → ((x : List ℕ) → apart v x ≡ 0 → T (all_bytes x) → length x ≡ 32 → v ≡ x) → T (all_bytes a) → T (all_bytes b) → T (all_bytes c)
    → length a ≡ 32 → length b ≡ 32 → length c ≡ 32 → apart v a + (apart v b + apart v c) ≤ 1 → cond (same a b) a c ≡ v
picked v a b c eq ha hb hc la lb lc e = go (same a b) refl
  where
    go : (t : Bool) → same a b ≡ t → cond t a c ≡ v
    go true s =
        ⊎_elim (λ (z : apart v a < 1). sym (eq a (omega arith) ha la))
        (λ (z : 1 ≤ apart v a). same_is a b (subst T (sym s) tt) ∙ sym (eq b (omega arith) hb lb))
        (cases_lt (apart v a) 1)
    go false s =
        ⊎_elim (λ (z : apart v c < 1). sym (eq c (omega arith) hc lc))
        (λ (z : 1 ≤ apart v c). absurd (subst T s (subst (λ x. T (same a x)) (sym (eq a (omega arith) ha la) ∙ eq b (omega arith) hb lb) (same_refl a))))
        (cases_lt (apart v c) 1)

mark_told : (v u : List ℕ) → T (all_bytes v) → T (all_bytes u) → length v ≡ 32 → length u ≡ 192 → apart (mark v) u ≤ 1 → mark_in u ≡ v
unfolding mark_in
mark_told v u hv hu lv lu e =
    let l2 = length-drop 32 u in
    let l3 = length-drop 64 u in
    let dd : drop 32 (drop 32 u) ≡ drop 64 u = drop-drop 32 32 u in
    let m = turned v ++ (turned v ++ turned v) in
    let s1 = apart_split 32 v (v ++ (v ++ m)) u lv (omega arith) in
    let s2 = apart_split 32 v (v ++ m) (drop 32 u) lv (omega arith) in
    let s3 = apart_split 32 v m (drop 64 u) lv (omega arith) in
    let s4 = ap (apart (v ++ m)) dd in
    picked v (take 32 u) (take 32 (drop 32 u)) (take 32 (drop 64 u))
    (λ x z hx lx. all_same v x hv hx (omega arith) z)
    (all_take 32 u hu) (all_take 32 (drop 32 u) (all_drop 32 u hu)) (all_take 32 (drop 64 u) (all_drop 64 u hu))
    (omega (arith, length-take 32 u)) (omega (arith, length-take 32 (drop 32 u))) (omega (arith, length-take 32 (drop 64 u)))
    (omega arith)

-- ---- pages

-- the last piece of what is read
last_piece : (a r : List ℕ) → length a ≡ 4352 → length r ≡ 4352 → T (nearly 17 1 a r) → apart (drop 4096 a) (drop 4096 r) ≤ 1
last_piece a r la lr h =
    let ta = take_all 256 (drop 4096 a) (omega (arith, length-drop 4096 a)) in
    let tr = take_all 256 (drop 4096 r) (omega (arith, length-drop 4096 r)) in
    omega (arith, nearly_last 16 1 a r h, ap₂ apart ta tr)

length_rest : (d : List ℕ) → length (rest d) ≡ 64
unfolding rest
length_rest d = omega (arith, length-append (guarded d) (places 0 (guarded d) ∷ replicate 30 255), length-guarded d)

length-paged : (v d : List ℕ) → length v ≡ 32 → length d ≡ 4096 → length (paged v d) ≡ 4352
unfolding paged
length-paged v d lv ld = omega (arith, length-append d (mark v ++ rest d), length-append (mark v) (rest d), mark-length v, length_rest d)

pub page_told : PageTold
unfolding paged data_in
page_told v d r hv hd hr lv ld lr h =
    let t = drop 4096 r in
    let lt : length t ≡ 256 = omega (arith, length-drop 4096 r) in
    let ht = all_drop 4096 r hr in
    let e = last_piece (paged v d) r (length-paged v d lv ld) lr h in
    let f = ap (λ x. apart x t) (drop_at d (mark v ++ rest d) 4096 ld) in
    let p = checks_told v d t hd ht lv lt (omega arith) in (
      ap (λ cs. repaired 16 cs r) p.1 ∙ repaired_is 16 d r hd hr ld (omega arith) (nearly_front 16 1 d (mark v ++ rest d) r ld h),
      mark_told v (take 192 t) hv (all_take 192 t ht) lv (omega (arith, length-take 192 t)) p.0,
      p.0,
    )

pub torn_told : TornTold
unfolding paged
torn_told v d w c r hv hw hc hr lv lw ld lr u h e =
    let lc : length c ≡ 4352 = omega (arith, under-length (paged v d) c u, length-paged v d lv ld) in
    let um = under-take 192 (mark v) (rest d) (drop 4096 c) (omega (arith, mark-length v)) (under_drop 4096 d (mark v ++ rest d) c ld u) in
    marks_told v w (take 192 (drop 4096 c)) (take 192 (drop 4096 r)) hv hw (all_take 192 (drop 4096 c) (all_drop 4096 c hc)) (all_take 192 (drop 4096 r) (all_drop 4096 r hr)) lv lw um
    (omega (arith, length-take 192 (drop 4096 r), length-drop 4096 r))
    (omega (arith, apart-take 192 (drop 4096 c) (drop 4096 r), last_piece c r lc lr h)) e

-- all ones could be a torn page of any mark, and so of two
blank_0 : T (under (mark (replicate 32 0)) (replicate 192 255))
unfolding under under_bits
blank_0 = tt

blank_1 : T (under (mark (replicate 32 1)) (replicate 192 255))
unfolding under under_bits
blank_1 = tt

ones_192 : T (all_bytes (replicate 192 255))
unfolding every
ones_192 = tt

all_0 : T (all_bytes (replicate 32 0))
unfolding every
all_0 = tt

all_1 : T (all_bytes (replicate 32 1))
unfolding every
all_1 = tt

blank_none : (w u : List ℕ) → T (all_bytes w) → T (all_bytes u) → length w ≡ 32 → length u ≡ 192 → apart (replicate 192 255) u ≤ 1 → apart (mark w) u ≤ 1 → ⊥
blank_none w u hw hu lw lu e f =
    let p = marks_told (replicate 32 0) w (replicate 192 255) u all_0 hw ones_192 hu refl lw blank_0 lu e f in
    let q = marks_told (replicate 32 1) w (replicate 192 255) u all_1 hw ones_192 hu refl lw blank_1 lu e f in
    let z : ◌≡◌ {A = ℕ} 0 1 = ap (λ l. get_or l 0 0) (p ∙ sym q) in
    omega arith

pub blank_told : BlankTold
blank_told w r hw hr lw lr h e =
    let k = last_piece (replicate 4352 255) r (length-replicate {A = ℕ} 4352 255) lr h in
    let t = apart-take 192 (drop 4096 (replicate 4352 255)) (drop 4096 r) in
    blank_none w (take 192 (drop 4096 r)) hw (all_take 192 (drop 4096 r) (all_drop 4096 r hr)) lw (omega (arith, length-take 192 (drop 4096 r), length-drop 4096 r)) (omega arith) e

pub all_each : (s : List ℕ) → ((i : ℕ) → get_or s i 0 < 256) → T (all_bytes s)
unfolding every
all_each [] h = tt
all_each (x ∷ s) h = from_both (ltb x 256) (all_bytes s) (lt→ltb x 256 (h 0)) (all_each s (λ i. h (suc i)))
