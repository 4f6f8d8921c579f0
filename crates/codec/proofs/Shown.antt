-- What `mark_of` shows. Assumes nothing.
use Rattle.std.proofs.Common.{◌≡◌, ℕ, ◌<◌, ◌≤◌, Bool, true, false, cond, T, leb, List, length, take, drop, Some, None, sym, refl, ap, ap₂, ◌∙◌, subst, ⊎_elim, arith, length-drop, length-take}
use Rattle.std.proofs.lemmas.Bool.{cases_lt, cases_Bool, leb-true, leb-false}
use Rattle.std.specs.Bool.{then_some}
use Rattle.codec.specs.Bits.{all_bytes, apart, same, mark}
use Rattle.codec.specs.Pages.{mark_in, shown, WrittenPage, TornPage, BlankPage}
use Rattle.codec.proofs.Pages.{all_take, all_drop, page_told, torn_told, blank_told}

pub near : (t w : List ℕ) → w ≡ mark_in t → apart (mark w) t ≤ 1 → Some w ≡ shown t
unfolding shown
near t w e h =
    let n = apart (mark (mark_in t)) t in
    let k : n ≤ 1 = subst (λ (x : List ℕ). apart (mark x) t ≤ 1) e h in
    ⊎_elim (λ (b : leb n 1 ≡ true). ap Some e ∙ ap (λ (z : Bool). cond z (Some (mark_in t)) None) (sym b))
    (λ (b : leb n 1 ≡ false). absurd (omega (arith, leb-false n 1 b)))
    (cases_Bool (leb n 1))

pub far : (t w : List ℕ) → w ≡ mark_in t → 1 < apart (mark w) t → None ≡ shown t
unfolding shown
far t w e h =
    let n = apart (mark (mark_in t)) t in
    let k : 1 < n = subst (λ (x : List ℕ). 1 < apart (mark x) t) e h in
    ⊎_elim (λ (b : leb n 1 ≡ true). absurd (omega (arith, leb-true n 1 b)))
    (λ (b : leb n 1 ≡ false). ap (λ (z : Bool). cond z (Some (mark_in t)) None) (sym b))
    (cases_Bool (leb n 1))

then_cond : (b : Bool) (v : List ℕ) → then_some b v ≡ cond b (Some v) None
then_cond true v = refl
then_cond false v = refl

-- the mark where few bits are apart, and else none
pub shown_then : (t w : List ℕ) (n : ℕ) → w ≡ mark_in t → n ≡ apart (mark w) t → then_some (leb n 1) w ≡ shown t
unfolding shown
shown_then t w n e f =
    ap₂ (λ (v : List ℕ) (m : ℕ). then_some (leb m 1) v) e (f ∙ ap (λ (v : List ℕ). apart (mark v) t) e) ∙ then_cond (leb (apart (mark (mark_in t)) t) 1) (mark_in t)

mark_bytes : (t : List ℕ) → T (all_bytes t) → T (all_bytes (mark_in t))
unfolding mark_in
mark_bytes t h = go (same (take 32 t) (take 32 (drop 32 t)))
  where
    go : (b : Bool) → T (all_bytes (cond b (take 32 t) (take 32 (drop 64 t))))
    go true = all_take 32 t h
    go false = all_take 32 (drop 64 t) (all_drop 64 t h)

length-mark : (t : List ℕ) → length t ≡ 192 → length (mark_in t) ≡ 32
unfolding mark_in
length-mark t l = go (same (take 32 t) (take 32 (drop 32 t)))
  where
    go : (b : Bool) → length (cond b (take 32 t) (take 32 (drop 64 t))) ≡ 32
    go true = omega (arith, length-take 32 t)
    go false = omega (arith, length-take 32 (drop 64 t), length-drop 64 t)

-- a mark that is shown is near what is read
pub shown_near : (t w : List ℕ) → shown t ≡ Some w → (w ≡ mark_in t) × (apart (mark w) t ≤ 1)
unfolding shown
shown_near t w e = ⊎_elim
    (λ (h : 1 < apart (mark (mark_in t)) t). absurd (let z : ◌≡◌ {A = ℕ} 0 1 = cc (far t (mark_in t) refl h) in omega arith))
    (λ (h : apart (mark (mark_in t)) t ≤ 1). let s : mark_in t ≡ w = cc (near t (mark_in t) refl h) in (sym s, subst (λ x. apart (mark x) t ≤ 1) s h))
    (cases_lt 1 (apart (mark (mark_in t)) t))

area_length : (r : List ℕ) → length r ≡ 4352 → length (take 192 (drop 4096 r)) ≡ 192
area_length r l = omega (arith, length-take 192 (drop 4096 r), length-drop 4096 r)

pub written_page : WrittenPage
written_page v d r hv hd hr lv ld lr h =
    let p = page_told v d r hv hd hr lv ld lr h in
    (p.0, sym (near (take 192 (drop 4096 r)) v (sym p.1) p.2))

pub torn_page : TornPage
torn_page v d w c r hv hc hr lv ld lr u h e =
    let t = take 192 (drop 4096 r) in
    let s = shown_near t w e in
    torn_told v d w c r hv (subst (λ x. T (all_bytes x)) (sym s.0) (mark_bytes t (all_take 192 (drop 4096 r) (all_drop 4096 r hr)))) hc hr lv (ap length s.0 ∙ length-mark t (area_length r lr)) ld lr u h s.1

pub blank_page_lem : BlankPage
blank_page_lem r hr lr h =
    let t = take 192 (drop 4096 r) in
    let m = mark_in t in
    ⊎_elim (λ (k : 1 < apart (mark m) t). sym (far t m refl k))
    (λ (k : apart (mark m) t ≤ 1). absurd (blank_told m r (mark_bytes t (all_take 192 (drop 4096 r) (all_drop 4096 r hr))) hr (length-mark t (area_length r lr)) lr h k))
    (cases_lt 1 (apart (mark m) t))
