-- What is in the lists of commands under way and of sectors, before and after a step. Assumes nothing.
use Rattle.std.proofs.Common.{◌≡◌, ℕ, zero, suc, ◌+◌, ◌<◌, ◌≤◌, Bool, true, false, cond, eqb, ◌⊎◌, List, [], ◌∷◌, map, sym, refl, ap, ◌∙◌, inl, inr, ⊎_elim, arith}
use mathlib.Core.List.Memᴰ
use mathlib.Core.List.{Memᴰ}
use Rattle.std.proofs.lemmas.Bool.{cond_both, eqb-true, eqb-false, or_parts}
use Rattle.drive.specs.Bits.{some'}
use Rattle.drive.specs.Host.{Way, without, put_way, gone, span}

-- what is in a list of one more
module _ {A : Type 0} {P : Type 0} {a b : A} {l : List A} where
  pub of_cons : (a ≡ b → P) → (Memᴰ a l → P) → Memᴰ a (b ∷ l) → P
  of_cons f g m = ⊎_elim f g (Memᴰ.cases_cons m)

pub of_cond : {A : Type 0} (b : Bool) (k l : List A) {a : A} → Memᴰ a (cond b k l) → Memᴰ a k ⊎ Memᴰ a l
of_cond true k l m = inl m
of_cond false k l m = inr m

pub in_put : (w : Way) (ws : List Way) {v : Way} → Memᴰ v (put_way w ws) → (v ≡ w) ⊎ Memᴰ v ws
unfolding put_way
in_put w [] m = absurd (Memᴰ.not-nil m)
in_put w (x ∷ ws) m =
    ⊎_elim
    (of_cons (λ e. inl e) (λ i. inr (Memᴰ.tail i)))
    (of_cons (λ e. inr (Memᴰ.head e)) (λ i. ⊎_elim (λ e. inl e) (λ j. inr (Memᴰ.tail j)) (in_put w ws i)))
    (of_cond (eqb w.tag x.tag) (w ∷ ws) (x ∷ put_way w ws) m)

pub in_gone : (t : ℕ) (ws : List Way) {v : Way} → Memᴰ v (gone t ws) → Memᴰ v ws
unfolding gone
in_gone t [] m = m
in_gone t (x ∷ ws) m =
    ⊎_elim
    (λ i. Memᴰ.tail i)
    (of_cons (λ e. Memᴰ.head e) (λ i. Memᴰ.tail (in_gone t ws i)))
    (of_cond (eqb t x.tag) ws (x ∷ gone t ws) m)

pub in_map : {A B : Type 0} (f : A → B) (l : List A) {b : B} → Memᴰ b (map f l) → (a : A) × Memᴰ a l × (b ≡ f a)
in_map f [] m = absurd (Memᴰ.not-nil m)
in_map f (x ∷ l) m =
    of_cons (λ e. (x, Memᴰ.head refl, e)) (λ i. let r = in_map f l i in (r.0, Memᴰ.tail r.1, r.2)) m

pub in_without : (s : ℕ) (l : List ℕ) {x : ℕ} → Memᴰ x (without s l) → Memᴰ x l
unfolding without
in_without s [] m = m
in_without s (y ∷ l) m =
    ⊎_elim
    (λ i. Memᴰ.tail i)
    (of_cons (λ e. Memᴰ.head e) (λ i. Memᴰ.tail (in_without s l i)))
    (of_cond (eqb s y) l (y ∷ without s l) m)

pub in_span : (from many : ℕ) {s : ℕ} → Memᴰ s (span from many) → (from ≤ s) × (s < from + many)
unfolding span
in_span from zero m = absurd (Memᴰ.not-nil m)
in_span from (suc n) m =
    of_cons (λ e. (omega arith, omega arith)) (λ i. let r = in_span (suc from) n i in (omega arith, omega arith)) m

-- ---- no tag twice

-- no command of the list has the tag
abbrev pub Free : ℕ → List Way → Type 0
Free t ws = (v : Way) → Memᴰ v ws → t ≡ v.tag → ⊥

-- each tag stands once
unfoldable pub Single : List Way → Type 0
Single [] = Unit {0}
Single (w ∷ ws) = Free w.tag ws × Single ws

pub single_none : Single []
unfolding Single
single_none = tt

pub single_more : (w : Way) (ws : List Way) → Free w.tag ws → Single ws → Single (w ∷ ws)
unfolding Single
single_more w ws f k = (f, k)

pub single_put : (w : Way) (ws : List Way) → Single ws → Single (put_way w ws)
unfolding Single put_way
single_put w [] k = k
single_put w (x ∷ ws) k =
    cond_both (eqb w.tag x.tag) (w ∷ ws) (x ∷ put_way w ws) Single
    (λ e. (λ v m t. k.0 v m (sym (eqb-true w.tag x.tag e) ∙ t), k.1))
    (λ e. (λ v m t. ⊎_elim (λ i. eqb-false w.tag x.tag e (sym (t ∙ ap (λ (u : Way). u.tag) i))) (λ i. k.0 v i t) (in_put w ws m), single_put w ws k.1))

pub single_gone : (t : ℕ) (ws : List Way) → Single ws → Single (gone t ws)
unfolding Single gone
single_gone t [] k = k
single_gone t (x ∷ ws) k =
    cond_both (eqb t x.tag) ws (x ∷ gone t ws) Single
    (λ e. k.1)
    (λ e. (λ v m. k.0 v (in_gone t ws m), single_gone t ws k.1))

pub single_map : (f : Way → Way) → ((w : Way) → (f w).tag ≡ w.tag) → (ws : List Way) → Single ws → Single (map f ws)
unfolding Single
single_map f h [] k = k
single_map f h (x ∷ ws) k =
    (λ v m t. let r = in_map f ws m in k.0 r.0 r.1 (sym (h x) ∙ t ∙ ap (λ (u : Way). u.tag) r.2 ∙ h r.0), single_map f h ws k.1)

-- a tag that no test finds is free
pub free_tag : (t : ℕ) (ws : List Way) → some' (λ (w : Way). eqb t w.tag) ws ≡ false → Free t ws
unfolding some'
free_tag t [] e v m p = absurd (Memᴰ.not-nil m)
free_tag t (x ∷ ws) e v m p =
    let b = or_parts (eqb t x.tag) (some' (λ (w : Way). eqb t w.tag) ws) e in
    of_cons (λ i. eqb-false t x.tag b.0 (p ∙ ap (λ (u : Way). u.tag) i)) (λ i. free_tag t ws b.1 v i p) m

pub single_same : (ws : List Way) {v w : Way} → Single ws → Memᴰ v ws → Memᴰ w ws → v.tag ≡ w.tag → v ≡ w
unfolding Single
single_same [] k i j e = absurd (Memᴰ.not-nil i)
single_same (x ∷ ws) {v} {w} k i j e =
    let tag : Way → ℕ = λ u. u.tag in
    of_cons
    (λ p. of_cons (λ q. p ∙ sym q) (λ n. absurd (k.0 w n (sym (ap tag p) ∙ e))) j)
    (λ m. of_cons (λ q. absurd (k.0 v m (sym (ap tag q) ∙ sym e))) (λ n. single_same ws k.1 m n e) j)
    i
