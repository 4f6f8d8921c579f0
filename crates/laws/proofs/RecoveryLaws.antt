-- Coming up never loses what was told, as long as fewer comings-up in a row are cut than there are good slots. Assumes nothing.
use Rattle.std.proofs.Common.{◌≡◌, ℕ, zero, suc, ◌+◌, ◌<◌, ◌≤◌, Bool, true, false, cond, eqb, ltb, ◌⊎◌, sym, refl, ap, ◌∙◌, subst, inl, inr, ⊎_elim, arith, lit<, lit≤}
use Rattle.std.proofs.lemmas.Bool.{cond_both, cond-true, cond-false, eq-eqb, ne_eqb, cases_eq, cases_Bool, cases_lt, both_ways, lt-ltb, le-ltb}
use Rattle.laws.specs.Wear.{put}
use Rattle.laws.specs.Recovery.{Page, blank, written, torn, Slot, Chip, tear, half_erased, erased_slot, copy_of, Seen, Look, Committed, Believed, Unread, Cleared, NextSlot, Above, sum_of, good_slots, bad_slots, Phase, off, rising, opened, filled, On, up_by, first_chip, Life, Recovers, FailedBelow, OneCutMore}

-- ---- sums

module _ (f g : ℕ → ℕ) where
  sum-le : (n : ℕ) → ((i : ℕ) → i < n → f i ≤ g i) → sum_of n f ≤ sum_of n g
  unfolding sum_of
  sum-le zero h = omega arith
  sum-le (suc n) h = omega (arith, sum-le n (λ i l. h i (omega arith)), h n (omega arith))

  -- all but one are no more, and that one by one at most
  sum-but-one : (n a : ℕ) → ((i : ℕ) → i < n → (i ≡ a → ⊥) → f i ≤ g i) → f a ≤ g a + 1 → sum_of n f ≤ sum_of n g + 1
  unfolding sum_of
  sum-but-one zero a h k = omega arith
  sum-but-one (suc n) a h k =
      ⊎_elim
      (λ (e : n ≡ a). let u = ap f e in let v = ap g e in omega (arith, sum-le n (λ i l. h i (omega arith) (λ j. omega arith))))
      (λ (e : n ≡ a → ⊥). omega (arith, sum-but-one n a (λ i l. h i (omega arith)) k, h n (omega arith) e))
      (cases_eq n a)

sum_none : (f : ℕ → ℕ) (n : ℕ) → ((i : ℕ) → i < n → f i ≤ 0) → sum_of n f ≤ 0
unfolding sum_of
sum_none f zero h = omega arith
sum_none f (suc n) h = omega (arith, sum_none f n (λ i l. h i (omega arith)), h n (omega arith))

at_other : {A : Type 0} (f : ℕ → A) (y : ℕ) (v : A) (b : ℕ) → (b ≡ y → ⊥) → put f y v b ≡ f b
at_other f y v b ne = cond-false (eqb b y) v (f b) (ne_eqb b y ne)

at_same : {A : Type 0} (f : ℕ → A) (b : ℕ) (v : A) → put f b v b ≡ v
at_same f b v = cond-true (eqb b b) v (f b) (eq-eqb b b refl)

-- where one slot has changed
module _ (h : Slot → ℕ) (f : ℕ → Slot) (b : ℕ) (v : Slot) where
  sum-apart : (n : ℕ) → n ≤ b → sum_of n (λ i. h (put f b v i)) ≡ sum_of n (λ i. h (f i))
  unfolding sum_of
  sum-apart zero l = refl
  sum-apart (suc n) l =
      let e = ap h (at_other f b v n (λ z. omega arith)) in
      omega (arith, sum-apart n (omega arith))

  sum-put : (n : ℕ) → b < n → sum_of n (λ i. h (put f b v i)) + h (f b) ≡ sum_of n (λ i. h (f i)) + h v
  unfolding sum_of
  sum-put zero l = absurd (omega arith)
  sum-put (suc n) l =
      ⊎_elim
      (λ (e : n ≡ b).
      let a = ap h (at_same f b v) in
      let d = ap (λ x. h (f x)) e in
      let c = ap (λ x. h (put f b v x)) e in
      omega (arith, sum-apart n (omega arith)))
      (λ (e : n ≡ b → ⊥).
      let a = ap h (at_other f b v n e) in
      omega (arith, sum-put n (omega arith)))
      (cases_eq n b)

-- ---- pages

not_blank : (p : Page) → p ≡ written → p ≡ blank → ⊥
not_blank p e f = let z : written ≡ blank = sym e ∙ f in let n : ◌≡◌ {A = ℕ} 0 1 = cc in omega arith

not_torn : (p : Page) → p ≡ written → p ≡ torn → ⊥
not_torn p e f = let z : written ≡ torn = sym e ∙ f in let n : ◌≡◌ {A = ℕ} 0 1 = cc in omega arith

torn_not_blank : (p : Page) → p ≡ torn → p ≡ blank → ⊥
torn_not_blank p e f = let z : torn ≡ blank = sym e ∙ f in let n : ◌≡◌ {A = ℕ} 0 1 = cc in omega arith

page_cases : (p : Page) → (p ≡ blank) ⊎ ((p ≡ written) ⊎ (p ≡ torn))
page_cases blank = inl refl
page_cases written = inr (inl refl)
page_cases torn = inr (inr refl)

seen_written : (p : Page) (b : Bool) → p ≡ written → Seen p b
seen_written p b e = subst (λ (q : Page). Seen q b) (sym e) tt

seen_torn : (p : Page) (b : Bool) → p ≡ torn → b ≡ true → Seen p b
seen_torn p b e t = subst (λ (q : Page). Seen q b) (sym e) t

unseen_blank : (p : Page) (b : Bool) → p ≡ blank → Seen p b → ⊥
unseen_blank p b e s = subst (λ (q : Page). Seen q b) e s

-- ---- what stands between the lives

-- a slot with a key above k that looks whole is so, and is current
abbrev Sound : Slot → Type 0
Sound s = (s.commit ≡ blank) ⊎ ((s.body ≡ written) × (s.current ≡ true))

-- a slot beside the anchor, whose key is k: blank, older, or younger and sound
data Other (k : ℕ) (s : Slot) : Type 0 where
  empty : s.body ≡ blank → Other k s
  older : s.key < k → Other k s
  younger : k < s.key → Sound s → Other k s

-- 1 for a good slot with a key above k
abbrev young_of : Bool → Page → Bool → ℕ
young_of true p b = 0
young_of false blank b = 0
young_of false written b = cond b 1 0
young_of false torn b = cond b 1 0

abbrev young : ℕ → Slot → ℕ
young k s = young_of s.bad s.body (ltb k s.key)

young_few : (b : Bool) (p : Page) (t : Bool) → young_of b p t ≤ 1
young_few true p t = omega arith
young_few false blank t = omega arith
young_few false written true = omega arith
young_few false written false = omega arith
young_few false torn true = omega arith
young_few false torn false = omega arith

young-tear : (b : Bool) (p : Page) (t : Bool) → young_of b (tear p) t ≤ young_of b p t
young-tear true p t = omega arith
young-tear false blank t = omega arith
young-tear false written t = omega arith
young-tear false torn t = omega arith

young_old : (b : Bool) (p : Page) → young_of b p false ≤ 0
young_old true p = omega arith
young_old false blank = omega arith
young_old false written = omega arith
young_old false torn = omega arith

young_is : (b : Bool) (p : Page) → b ≡ false → (p ≡ blank → ⊥) → young_of b p true ≡ 1
young_is true p e h = absurd (both_ways true e refl)
young_is false blank e h = absurd (h refl)
young_is false written e h = refl
young_is false torn e h = refl

good_few : (b : Bool) → cond b 0 1 ≤ 1
good_few true = omega arith
good_few false = omega arith

-- The anchor a, with the slot v: whole, good and current; every other slot is blank, older, or younger and sound; and at most c good
-- ones are younger.
record Anchor (n : ℕ) (chip : Chip) (a : ℕ) (v : Slot) (c : ℕ) : Type 0 where
  inside : a < n
  is : chip a ≡ v
  good : v.bad ≡ false
  body : v.body ≡ written
  commit : v.commit ≡ written
  current : v.current ≡ true
  others : (i : ℕ) → i < n → (i ≡ a → ⊥) → Other v.key (chip i)
  few : sum_of n (λ i. young v.key (chip i)) ≤ c

-- a slot beside the anchor changes
anchor_put : (n : ℕ) (chip : Chip) (a : ℕ) (v : Slot) (c : ℕ) → Anchor n chip a v c → (w : ℕ) (s : Slot) (then : ℕ) → w < n → (w ≡ a → ⊥) → Other v.key s → young v.key s + c ≤ then + young v.key (chip w) → Anchor n (put chip w s) a v then
anchor_put n chip a v c k w s then l ne o h =
    let p = sum-put (young v.key) chip w s n l in
    let f = k.few in
    record {
      inside = k.inside;
      is = at_other chip w s a (λ e. ne (sym e)) ∙ k.is;
      good = k.good;
      body = k.body;
      commit = k.commit;
      current = k.current;
      others =
          λ i li ni.
          cond_both (eqb i w) s (chip i) (Other v.key) (λ e. o) (λ e. k.others i li ni);
      few = omega arith;
    }

anchor_more : (n : ℕ) (chip : Chip) (a : ℕ) (v : Slot) (c then : ℕ) → c ≤ then → Anchor n chip a v c → Anchor n chip a v then
anchor_more n chip a v c then h k =
    record { inside = k.inside; is = k.is; good = k.good; body = k.body; commit = k.commit; current = k.current; others = k.others; few = omega (arith, k.few) }

-- a slot that is half erased stays what it is to the anchor, if it's blank, older or torn
half_other : (k : ℕ) (b : Bool) (s : Slot) → Other k s → (s.body ≡ blank) ⊎ ((s.key < k) ⊎ (s.body ≡ torn)) → Other k (half_erased b s)
half_other k b s o (inl e) = empty (ap tear e)
half_other k b s o (inr (inl e)) = older e
half_other k b s (empty e) (inr (inr t)) = absurd (torn_not_blank s.body t e)
half_other k b s (older e) (inr (inr t)) = older e
half_other k b s (younger l (inl e)) (inr (inr t)) = younger l (inl (ap tear e))
half_other k b s (younger l (inr e)) (inr (inr t)) = absurd (not_torn s.body e.0 t)

-- what is believed: the anchor, or a younger slot that is sound
believed_sound : (n : ℕ) (chip : Chip) (a : ℕ) (v : Slot) (c : ℕ) → Anchor n chip a v c → (look : Look) (s : ℕ) → Believed n chip look s → ((chip s).body ≡ written) × ((chip s).current ≡ true) × ((s ≡ a) ⊎ (v.key < (chip s).key))
believed_sound n chip a v c k look s b =
    ⊎_elim
    (λ (e : s ≡ a).
    let i = ap chip e ∙ k.is in
    (ap (λ (u : Slot). u.body) i ∙ k.body, ap (λ (u : Slot). u.current) i ∙ k.current, inl e))
    (λ (e : s ≡ a → ⊥).
    let h : (chip a).key ≤ (chip s).key = b.2 a k.inside (seen_written _ _ (ap (λ (u : Slot). u.body) k.is ∙ k.body), seen_written _ _ (ap (λ (u : Slot). u.commit) k.is ∙ k.commit)) in
    let j = ap (λ (u : Slot). u.key) k.is in
    elim (k.others s b.0 e) [
      | empty x ↦ absurd (unseen_blank _ _ x b.1.0)
      | older x ↦ absurd (omega arith)
      | younger x (inl y) ↦ absurd (unseen_blank _ _ y b.1.1)
      | younger x (inr y) ↦ (y.0, y.1, inr x)
    ])
    (cases_eq s a)

-- ---- what stands while it comes up

-- the anchor stands, and the source is it or younger; or so many were cut that it may not be cut again
data Stand (n : ℕ) (chip : Chip) (s c : ℕ) : Type 0 where
  anchored : (a : ℕ) (v : Slot) → Anchor n chip a v c → (s ≡ a) ⊎ (v.key < (chip s).key) → Stand n chip s c
  settled : good_slots n chip ≤ c + 1 → Stand n chip s c

record Source (n : ℕ) (chip : Chip) (s : ℕ) : Type 0 where
  inside : s < n
  body : (chip s).body ≡ written
  current : (chip s).current ≡ true

-- every other slot that is good is younger: then no cut is left
all-young : (n : ℕ) (chip : Chip) (a : ℕ) (v : Slot) (c : ℕ) → Anchor n chip a v c → ((i : ℕ) → i < n → (i ≡ a → ⊥) → (chip i).bad ≡ false → ((chip i).body ≡ blank → ⊥) × (v.key < (chip i).key)) → good_slots n chip ≤ c + 1
all-young n chip a v c k h =
    let s = sum-but-one (λ i. cond (chip i).bad 0 1) (λ i. young v.key (chip i)) n a each (let g = good_few (chip a).bad in omega arith) in
    omega (arith, k.few)
  where
    each : (i : ℕ) → i < n → (i ≡ a → ⊥) → cond (chip i).bad 0 1 ≤ young v.key (chip i)
    each i l ne =
        ⊎_elim
        (λ (e : (chip i).bad ≡ true). let z = cond-true {A = ℕ} (chip i).bad 0 1 e in omega arith)
        (λ (e : (chip i).bad ≡ false).
        let r = h i l ne e in
        let y = ap (λ (t : Bool). young_of (chip i).bad (chip i).body t) (lt-ltb v.key (chip i).key r.1) in
        let z = young_is (chip i).bad (chip i).body e r.0 in
        let g = good_few (chip i).bad in
        omega arith)
        (cases_Bool (chip i).bad)

-- the slot to take is beside the anchor, and blank or older; or no cut is left
next_cases : (n : ℕ) (chip : Chip) (a : ℕ) (v : Slot) (c s w : ℕ) → Anchor n chip a v c → Source n chip s → (s ≡ a) ⊎ (v.key < (chip s).key) → NextSlot n chip s w → ((w ≡ a → ⊥) × (((chip w).body ≡ blank) ⊎ ((chip w).key < v.key))) ⊎ (good_slots n chip ≤ c + 1)
next_cases n chip a v c s w k src r (l, ns, g, inl e) =
    inl (λ i. not_blank (chip w).body (ap (λ x. (chip x).body) i ∙ ap (λ (u : Slot). u.body) k.is ∙ k.body) e, inl e)
next_cases n chip a v c s w k src r (l, ns, g, inr low) =
    ⊎_elim
    (λ (h : (chip w).key < v.key).
    inl (λ i. let j = ap (λ x. (chip x).key) i in let m = ap (λ (u : Slot). u.key) k.is in omega arith, inr h))
    (λ (h : v.key ≤ (chip w).key).
    inr (all-young n chip a v c k (λ i li ni gi. ⊎_elim (λ e. mine i ni e) (λ e. rest h i li ni gi e) (cases_eq i s))))
    (cases_lt (chip w).key v.key)
  where
    mine : (i : ℕ) → (i ≡ a → ⊥) → i ≡ s → ((chip i).body ≡ blank → ⊥) × (v.key < (chip i).key)
    mine i ni e = (
      λ b. not_blank (chip s).body src.body (sym (ap (λ x. (chip x).body) e) ∙ b),
      ⊎_elim (λ j. absurd (ni (e ∙ j))) (λ j. let m = ap (λ x. (chip x).key) e in omega arith) r,
    )

    rest : v.key ≤ (chip w).key → (i : ℕ) → i < n → (i ≡ a → ⊥) → (chip i).bad ≡ false → (i ≡ s → ⊥) → ((chip i).body ≡ blank → ⊥) × (v.key < (chip i).key)
    rest h i li ni gi e =
        let p = low i li e gi in (
          p.0,
          elim (k.others i li ni) [
            | empty x ↦ absurd (p.0 x)
            | older x ↦ absurd (omega (arith, p.1))
            | younger x y ↦ x
          ],
        )

-- ---- erasing

-- x is to be cleared or taken
abbrev Target : (n : ℕ) → Chip → Look → (s x : ℕ) → Type 0
Target n chip look s x = Unread n chip look x ⊎ (Cleared n chip look × NextSlot n chip s x)

-- the anchor, beside which x stands, blank, older or torn
record Beside (n : ℕ) (chip : Chip) (s c x : ℕ) : Type 0 where
  a : ℕ
  v : Slot
  anchor : Anchor n chip a v c
  source : (s ≡ a) ⊎ (v.key < (chip s).key)
  apart : x ≡ a → ⊥
  kind : ((chip x).body ≡ blank) ⊎ (((chip x).key < v.key) ⊎ ((chip x).body ≡ torn))

source_put : {n : ℕ} {chip : Chip} {s : ℕ} (x : ℕ) (e : Slot) → (s ≡ x → ⊥) → Source n chip s → Source n (put chip x e) s
source_put {n} {chip} {s} x e ne k =
    let i = at_other chip x e s ne in
    record { inside = k.inside; body = ap (λ (u : Slot). u.body) i ∙ k.body; current = ap (λ (u : Slot). u.current) i ∙ k.current }

-- the source stays what it is to the anchor
rank_put : (chip : Chip) (s x : ℕ) (e : Slot) (a k : ℕ) → (s ≡ x → ⊥) → (s ≡ a) ⊎ (k < (chip s).key) → (s ≡ a) ⊎ (k < (put chip x e s).key)
rank_put chip s x e a k ne r = ⊎_elim (λ i. inl i) (λ i. inr (let j = ap (λ (u : Slot). u.key) (at_other chip x e s ne) in omega arith)) r

-- good slots, where a good one has changed
good_put : (n : ℕ) (chip : Chip) (x : ℕ) (e : Slot) → x < n → (chip x).bad ≡ false → good_slots n (put chip x e) ≤ good_slots n chip
good_put n chip x e l g =
    let p = sum-put (λ (u : Slot). cond u.bad 0 1) chip x e n l in
    let z = cond-false {A = ℕ} (chip x).bad 0 1 g in
    let f = good_few e.bad in
    omega arith

module _ (n : ℕ) (chip : Chip) (look : Look) (s c x : ℕ) (src : Source n chip s) where
  target-inside : Target n chip look s x → x < n
  target-inside (inl u) = u.0
  target-inside (inr u) = u.1.0

  target-good : Target n chip look s x → (chip x).bad ≡ false
  target-good (inl u) = u.1
  target-good (inr u) = u.1.2

  target-apart : Target n chip look s x → s ≡ x → ⊥
  target-apart (inl u) e = not_torn (chip s).body src.body (ap (λ y. (chip y).body) e ∙ u.2)
  target-apart (inr u) e = u.1.1 (sym e)

  beside : Stand n chip s c → Target n chip look s x → Beside n chip s c x ⊎ (good_slots n chip ≤ c + 1)
  beside (settled h) t = inr h
  beside (anchored a v k r) (inl u) =
      inl (record { a = a; v = v; anchor = k; source = r; apart = λ e. not_torn (chip x).body (ap (λ y. (chip y).body) e ∙ ap (λ (z : Slot). z.body) k.is ∙ k.body) u.2; kind = inr (inr u.2) })
  beside (anchored a v k r) (inr u) =
      ⊎_elim
      (λ h. inl (record { a = a; v = v; anchor = k; source = r; apart = h.0; kind = ⊎_elim (λ e. inl e) (λ e. inr (inl e)) h.1 }))
      (λ h. inr h)
      (next_cases n chip a v c s x k src r u.1)

  -- a slot is erased
  stand-erased : Stand n chip s c → Target n chip look s x → Stand n (put chip x erased_slot) s c
  stand-erased st t =
      let l = target-inside t in
      let ne = target-apart t in
      ⊎_elim
      (λ (b : Beside n chip s c x).
      anchored b.a b.v (anchor_put n chip b.a b.v c b.anchor x erased_slot c l b.apart (empty refl) (omega arith)) (rank_put chip s x erased_slot b.a b.v.key ne b.source))
      (λ (h : good_slots n chip ≤ c + 1). settled (let g = good_put n chip x erased_slot l (target-good t) in omega arith))
      (beside st t)

  -- its erasing fails
  stand-failed : Stand n chip s c → Target n chip look s x → Stand n (put chip x (half_erased true (chip x))) s c
  stand-failed st t =
      let l = target-inside t in
      let ne = target-apart t in
      ⊎_elim
      (λ (b : Beside n chip s c x).
      anchored b.a b.v
      (anchor_put n chip b.a b.v c b.anchor x (half_erased true (chip x)) c l b.apart (half_other b.v.key true (chip x) (b.anchor.others x l b.apart) b.kind) (omega arith))
      (rank_put chip s x (half_erased true (chip x)) b.a b.v.key ne b.source))
      (λ (h : good_slots n chip ≤ c + 1). settled (let g = good_put n chip x (half_erased true (chip x)) l (target-good t) in omega arith))
      (beside st t)

  -- its erasing is cut
  anchor-cut : Stand n chip s c → Target n chip look s x → c + 1 < good_slots n chip + 0 → (a : ℕ) × (v : Slot) × Anchor n (put chip x (half_erased false (chip x))) a v (c + 1)
  anchor-cut st t m =
      let l = target-inside t in
      ⊎_elim
      (λ (b : Beside n chip s c x).
      let y = young-tear false (chip x).body (ltb b.v.key (chip x).key) in
      let z = ap (λ (u : Bool). young_of u (chip x).body (ltb b.v.key (chip x).key)) (target-good t) in
      (b.a, b.v, anchor_put n chip b.a b.v c b.anchor x (half_erased false (chip x)) (c + 1) l b.apart (half_other b.v.key false (chip x) (b.anchor.others x l b.apart) b.kind) (omega arith)))
      (λ (h : good_slots n chip ≤ c + 1). absurd (omega arith))
      (beside st t)

-- ---- filling and committing

record Opened (n : ℕ) (chip : Chip) (c : ℕ) (look : Look) (s w : ℕ) : Type 0 where
  source : Source n chip s
  stand : Stand n chip s c
  inside : w < n
  apart : s ≡ w → ⊥
  body : (chip w).body ≡ blank
  good : (chip w).bad ≡ false
  cleared : Cleared n chip look

record Filled (n : ℕ) (chip : Chip) (c : ℕ) (s w : ℕ) : Type 0 where
  source : Source n chip s
  -- the slot that is filled is one more of those younger than the anchor
  stand : ((a : ℕ) × (v : Slot) × Anchor n chip a v (c + 1) × ((s ≡ a) ⊎ (v.key < (chip s).key)) × (w ≡ a → ⊥)) ⊎ (good_slots n chip ≤ c + 1)
  inside : w < n
  apart : s ≡ w → ⊥
  body : (chip w).body ≡ written
  good : (chip w).bad ≡ false
  current : (chip w).current ≡ true
  top : (i : ℕ) → i < n → (i ≡ w → ⊥) → ((chip i).body ≡ blank) ⊎ ((chip i).key < (chip w).key)

-- every slot that isn't blank has a lower key than the new one
all_below : (n : ℕ) (chip : Chip) (look : Look) (k : ℕ) → Cleared n chip look → Above n chip look k → (i : ℕ) → i < n → ((chip i).body ≡ blank) ⊎ ((chip i).key < k)
all_below n chip look k c h i l =
    ⊎_elim
    (λ (e : (chip i).body ≡ blank). inl e)
    (λ r. inr (⊎_elim
    (λ (e : (chip i).body ≡ written). h i l (inl (seen_written _ _ e)))
    (λ (e : (chip i).body ≡ torn).
    ⊎_elim (λ (b : (chip i).bad ≡ true). h i l (inr b)) (λ (b : (chip i).bad ≡ false). h i l (inl (seen_torn _ _ e (c i l b e)))) (cases_Bool (chip i).bad))
    r))
    (page_cases (chip i).body)

-- a blank slot is filled, whole or torn: to the anchor it is younger, and not committed
anchor_fill : {n : ℕ} {chip : Chip} {c : ℕ} {look : Look} {s w : ℕ} (o : Opened n chip c look s w) (k : ℕ) → Above n chip look k → (p : Page) (b : Bool) (then : ℕ) (a : ℕ) (v : Slot) → Anchor n chip a v c → young_of b p (ltb v.key k) + c ≤ then → Anchor n (put chip w (copy_of (chip s) (bad_slots n chip) k p blank b)) a v then
anchor_fill {n} {chip} {c} {look} {s} {w} o k h p b then a v m y =
    let i = m.is in
    let j = ap (λ (u : Slot). u.body) i ∙ m.body in
    let z = ap (λ (u : Slot). u.key) i in
    let ne : w ≡ a → ⊥ = λ e. not_blank (chip w).body (ap (λ x. (chip x).body) e ∙ j) o.body in
    let lower : v.key < k = ⊎_elim (λ e. absurd (not_blank (chip a).body j e)) (λ e. omega arith) (all_below n chip look k o.cleared h a m.inside) in
    anchor_put n chip a v c m w (copy_of (chip s) (bad_slots n chip) k p blank b) then o.inside ne (younger lower (inl refl)) (omega arith)

filled_fine : {n : ℕ} {chip : Chip} {c : ℕ} {look : Look} {s w : ℕ} (o : Opened n chip c look s w) (k : ℕ) → Above n chip look k → Filled n (put chip w (copy_of (chip s) (bad_slots n chip) k written blank false)) c s w
filled_fine {n} {chip} {c} {look} {s} {w} o k h =
    record {
      source = source_put w new o.apart o.source;
      stand =
          elim o.stand [
            | anchored a v m r ↦
                inl (
                  a,
                  v,
                  anchor_fill o k h written false (c + 1) a v m (let y = young_few false written (ltb v.key k) in omega arith),
                  rank_put chip s w new a v.key o.apart r,
                  λ e. not_blank (chip w).body (ap (λ x. (chip x).body) e ∙ ap (λ (u : Slot). u.body) m.is ∙ m.body) o.body,
                )
            | settled g ↦ inr (let p = good_put n chip w new o.inside o.good in omega arith)
          ];
      inside = o.inside;
      apart = o.apart;
      body = ap (λ (u : Slot). u.body) here;
      good = ap (λ (u : Slot). u.bad) here;
      current = ap (λ (u : Slot). u.current) here ∙ o.source.current;
      top =
          λ i l ne.
          let e = at_other chip w new i ne in
          let f = ap (λ (u : Slot). u.key) here in
          let g = ap (λ (u : Slot). u.key) e in
          ⊎_elim (λ b. inl (ap (λ (u : Slot). u.body) e ∙ b)) (λ b. inr (omega arith)) (all_below n chip look k o.cleared h i l);
    }
  where
    new : Slot
    new = copy_of (chip s) (bad_slots n chip) k written blank false

    here : put chip w new w ≡ new
    here = at_same chip w new

fill_fails_lem : {n : ℕ} {chip : Chip} {c : ℕ} {look : Look} {s w : ℕ} (o : Opened n chip c look s w) (k : ℕ) → Above n chip look k → Stand n (put chip w (copy_of (chip s) (bad_slots n chip) k torn blank true)) s c
fill_fails_lem {n} {chip} {c} {look} {s} {w} o k h =
    elim o.stand [
      | anchored a v m r ↦ anchored a v (anchor_fill o k h torn true c a v m (omega arith)) (rank_put chip s w (copy_of (chip s) (bad_slots n chip) k torn blank true) a v.key o.apart r)
      | settled g ↦ settled (let p = good_put n chip w (copy_of (chip s) (bad_slots n chip) k torn blank true) o.inside o.good in omega arith)
    ]

fill_cut_lem : {n : ℕ} {chip : Chip} {c : ℕ} {look : Look} {s w : ℕ} (o : Opened n chip c look s w) (k : ℕ) → Above n chip look k → c + 1 < good_slots n chip + 0 → (a : ℕ) × (v : Slot) × Anchor n (put chip w (copy_of (chip s) (bad_slots n chip) k torn blank false)) a v (c + 1)
fill_cut_lem {n} {chip} {c} {look} {s} {w} o k h l =
    elim o.stand [
      | anchored a v m r ↦ (a, v, anchor_fill o k h torn false (c + 1) a v m (let y = young_few false torn (ltb v.key k) in omega arith))
      | settled g ↦ absurd (omega arith)
    ]

-- the commit page is torn: to the anchor the slot is younger and sound
anchor_torn : {n : ℕ} {chip : Chip} {c s w : ℕ} (f : Filled n chip c s w) (b : Bool) (then : ℕ) (a : ℕ) (v : Slot) → Anchor n chip a v (c + 1) → (w ≡ a → ⊥) → young_of b written true + c ≤ then → Anchor n (put chip w (copy_of (chip w) (chip w).era (chip w).key written torn b)) a v then
anchor_torn {n} {chip} {c} {s} {w} f b then a v m ne y =
    let j = ap (λ (u : Slot). u.body) m.is ∙ m.body in
    let z = ap (λ (u : Slot). u.key) m.is in
    let lower : v.key < (chip w).key = ⊎_elim (λ e. absurd (not_blank (chip a).body j e)) (λ e. omega arith) (f.top a m.inside (λ e. ne (sym e))) in
    let t = lt-ltb v.key (chip w).key lower in
    let one = ap (λ (q : Bool). young_of (chip w).bad (chip w).body q) t ∙ young_is (chip w).bad (chip w).body f.good (not_blank (chip w).body f.body) in
    let new = ap (λ (q : Bool). young_of b written q) t in
    anchor_put n chip a v (c + 1) m w (copy_of (chip w) (chip w).era (chip w).key written torn b) then f.inside ne (younger lower (inr (refl, f.current))) (omega arith)

commit_fails_lem : {n : ℕ} {chip : Chip} {c s w : ℕ} → Filled n chip c s w → Stand n (put chip w (copy_of (chip w) (chip w).era (chip w).key written torn true)) s c
commit_fails_lem {n} {chip} {c} {s} {w} f =
    ⊎_elim
    (λ r. anchored r.0 r.1 (anchor_torn f true c r.0 r.1 r.2 r.4 (omega arith)) (rank_put chip s w (copy_of (chip w) (chip w).era (chip w).key written torn true) r.0 r.1.key f.apart r.3))
    (λ (g : good_slots n chip ≤ c + 1). settled (let p = good_put n chip w (copy_of (chip w) (chip w).era (chip w).key written torn true) f.inside f.good in omega arith))
    f.stand

commit_cut_lem : {n : ℕ} {chip : Chip} {c s w : ℕ} → Filled n chip c s w → c + 1 < good_slots n chip + 0 → (a : ℕ) × (v : Slot) × Anchor n (put chip w (copy_of (chip w) (chip w).era (chip w).key written torn false)) a v (c + 1)
commit_cut_lem {n} {chip} {c} {s} {w} f l =
    ⊎_elim
    (λ r. (r.0, r.1, anchor_torn f false (c + 1) r.0 r.1 r.2 r.4 (omega arith)))
    (λ (g : good_slots n chip ≤ c + 1). absurd (omega arith))
    f.stand

young_blank : (b : Bool) (t : Bool) → young_of b blank t ≤ 0
young_blank true t = omega arith
young_blank false t = omega arith

-- it is up: the new slot is the anchor
commit_fine : {n : ℕ} {chip : Chip} {c s w : ℕ} → Filled n chip c s w → Anchor n (up_by chip w) w (up_by chip w w) 0
commit_fine {n} {chip} {c} {s} {w} f =
    record {
      inside = f.inside;
      is = refl;
      good = f.good;
      body = f.body;
      commit = cond-true (eqb w w) written (chip w).commit (eq-eqb w w refl);
      current = cond-true (eqb w w) (chip w).current false (eq-eqb w w refl) ∙ f.current;
      others = λ i l ne. ⊎_elim (λ e. empty e) (λ e. older e) (f.top i l ne);
      few = sum_none (λ i. young (chip w).key (up_by chip w i)) n none;
    }
  where
    low : (i : ℕ) → (chip i).key ≤ (chip w).key → young (chip w).key (up_by chip w i) ≤ 0
    low i h = let t = ap (λ (q : Bool). young_of (chip i).bad (chip i).body q) (le-ltb (chip w).key (chip i).key h) in let o = young_old (chip i).bad (chip i).body in omega arith

    none : (i : ℕ) → i < n → young (chip w).key (up_by chip w i) ≤ 0
    none i l =
        ⊎_elim
        (λ (e : i ≡ w). low i (let k = ap (λ x. (chip x).key) e in omega arith))
        (λ (e : i ≡ w → ⊥).
        ⊎_elim
        (λ (b : (chip i).body ≡ blank).
        let t = ap (λ (p : Page). young_of (chip i).bad p (ltb (chip w).key (chip i).key)) b in
        let o = young_blank (chip i).bad (ltb (chip w).key (chip i).key) in
        omega arith)
        (λ b. low i (omega arith))
        (f.top i l e))
        (cases_eq i w)

-- ---- every step

-- what stands in each phase
abbrev Safe : (n : ℕ) → Chip → ℕ → Phase → Type 0
Safe n chip c off = (a : ℕ) × (v : Slot) × Anchor n chip a v c
Safe n chip c (rising look s) = Source n chip s × Stand n chip s c
Safe n chip c (opened look s w) = Opened n chip c look s w
Safe n chip c (filled look s w) = Filled n chip c s w

safe_first : (n : ℕ) → 0 < n → Safe n first_chip 0 off
safe_first n h = (
  0,
  record { key = 1; era = 0; body = written; commit = written; bad = false; current = true },
  record {
    inside = h;
    is = refl;
    good = refl;
    body = refl;
    commit = refl;
    current = refl;
    others = λ i l ne. empty (ap (λ (u : Slot). u.body) (at_other (λ i. erased_slot) 0 _ i ne));
    few = sum_none (λ i. young 1 (first_chip i)) n none;
  },
)
  where
    none : (i : ℕ) → i < n → young 1 (first_chip i) ≤ 0
    none i l = cond_both (eqb i 0) (record { key = 1; era = 0; body = written; commit = written; bad = false; current = true }) erased_slot (λ (u : Slot). young 1 u ≤ 0) (λ e. omega arith) (λ e. omega arith)

safe_looks : (n : ℕ) (chip : Chip) (c : ℕ) → Safe n chip c off → (look : Look) (s : ℕ) → Believed n chip look s → Safe n chip c (rising look s)
safe_looks n chip c (a, v, k) look s b =
    let r = believed_sound n chip a v c k look s b in
    (record { inside = b.0; body = r.0; current = r.1 }, anchored a v k r.2)

stand_stops : (n : ℕ) (chip : Chip) (s c : ℕ) → Stand n chip s c → c + 1 < good_slots n chip + 0 → Safe n chip (c + 1) off
stand_stops n chip s c (anchored a v k r) h = (a, v, anchor_more n chip a v c (c + 1) (omega arith) k)
stand_stops n chip s c (settled g) h = absurd (omega arith)

safe_stops : (n : ℕ) (chip : Chip) (c : ℕ) (p : Phase) → Safe n chip c p → On p → c + 1 < good_slots n chip + 0 → Safe n chip (c + 1) off
safe_stops n chip c off k o h = elim o [ ]
safe_stops n chip c (rising look s) k o h = stand_stops n chip s c k.1 h
safe_stops n chip c (opened look s w) k o h = stand_stops n chip s c k.stand h
safe_stops n chip c (filled look s w) k o h = ⊎_elim (λ r. (r.0, r.1, r.2)) (λ (g : good_slots n chip ≤ c + 1). absurd (omega arith)) k.stand

cleared-put : (n : ℕ) (chip : Chip) (look : Look) (w : ℕ) → Cleared n chip look → Cleared n (put chip w erased_slot) look
cleared-put n chip look w k i l =
    cond_both (eqb i w) erased_slot (chip i) (λ (u : Slot). u.bad ≡ false → u.body ≡ torn → look.bodies i ≡ true)
    (λ e g t. absurd (torn_not_blank blank t refl))
    (λ e. k i l)

safe_takes : (n : ℕ) (chip : Chip) (c : ℕ) (look : Look) (s w : ℕ) → Safe n chip c (rising look s) → Cleared n chip look → NextSlot n chip s w → Safe n (put chip w erased_slot) c (opened look s w)
safe_takes n chip c look s w (src, st) cl t =
    let ne = target-apart n chip look s c w src (inr (cl, t)) in
    let here = at_same chip w erased_slot in
    record {
      source = source_put w erased_slot ne src;
      stand = stand-erased n chip look s c w src st (inr (cl, t));
      inside = t.0;
      apart = ne;
      body = ap (λ (u : Slot). u.body) here;
      good = ap (λ (u : Slot). u.bad) here;
      cleared = cleared-put n chip look w cl;
    }

safe : {n : ℕ} {chip : Chip} {c : ℕ} {p : Phase} → Life n 0 chip c p → Safe n chip c p
safe {n} (Life.first h) = safe_first n h
safe {n} (Life.looks {chip = chip} {cuts = c} look s r b) = safe_looks n chip c (safe r) look s b
safe {n} (Life.clears {chip = chip} {cuts = c} {look = look} {s = s} x r u) =
    let k = safe r in
    (source_put x erased_slot (target-apart n chip look s c x k.0 (inl u)) k.0, stand-erased n chip look s c x k.0 k.1 (inl u))
safe {n} (Life.takes {chip = chip} {cuts = c} {look = look} {s = s} w r cl t) = safe_takes n chip c look s w (safe r) cl t
safe {n} (Life.erase_fails {chip = chip} {cuts = c} {look = look} {s = s} x r t) =
    let k = safe r in
    (source_put x (half_erased true (chip x)) (target-apart n chip look s c x k.0 t) k.0, stand-failed n chip look s c x k.0 k.1 t)
safe {n} (Life.erase_cut {chip = chip} {cuts = c} {look = look} {s = s} x r t h) = let k = safe r in anchor-cut n chip look s c x k.0 k.1 t h
safe (Life.fills k r h) = filled_fine (safe r) k h
safe {n} (Life.fill_fails {chip = chip} {s = s} {w = w} k r h) = let o = safe r in (source_put w (copy_of (chip s) (bad_slots n chip) k torn blank true) o.apart o.source, fill_fails_lem o k h)
safe (Life.fill_cut k r h l) = fill_cut_lem (safe r) k h l
safe (Life.commits {chip = chip} {w = w} r) = (w, up_by chip w w, commit_fine (safe r))
safe (Life.commit_fails {chip = chip} {w = w} r) = let f = safe r in (source_put w (copy_of (chip w) (chip w).era (chip w).key written torn true) f.apart f.source, commit_fails_lem f)
safe (Life.commit_cut r l) = commit_cut_lem (safe r) l
safe {n} (Life.stops {chip = chip} {cuts = c} {p = p} r o h) = safe_stops n chip c p (safe r) o h

-- ---- the law

seen_or_not : (p : Page) (b : Bool) → Seen p b ⊎ (Seen p b → ⊥)
seen_or_not blank b = inr (λ s. s)
seen_or_not written b = inl tt
seen_or_not torn b = ⊎_elim (λ (e : b ≡ true). inl e) (λ (e : b ≡ false). inr (λ t. both_ways b e t)) (cases_Bool b)

committed_or_not : (chip : Chip) (look : Look) (i : ℕ) → Committed chip look i ⊎ (Committed chip look i → ⊥)
committed_or_not chip look i =
    ⊎_elim
    (λ b. ⊎_elim (λ c. inl (b, c)) (λ c. inr (λ r. c r.1)) (seen_or_not (chip i).commit (look.commits i)))
    (λ b. inr (λ r. b r.0))
    (seen_or_not (chip i).body (look.bodies i))

-- of the first n slots none looks whole, or one of those that do has the highest key
best : (chip : Chip) (look : Look) (n : ℕ) → ((i : ℕ) → i < n → Committed chip look i → ⊥) ⊎ ((s : ℕ) × Believed n chip look s)
best chip look zero = inl (λ i l c. absurd (omega arith))
best chip look (suc n) = ⊎_elim (λ c. inr (with-last c (best chip look n))) (λ c. without-last c (best chip look n)) (committed_or_not chip look n)
  where
    split : (P : ℕ → Type 0) → P n → ((i : ℕ) → i < n → P i) → (i : ℕ) → i < suc n → P i
    split P here below i l = ⊎_elim (λ (e : i ≡ n). subst P (sym e) here) (λ (e : i ≡ n → ⊥). below i (omega arith)) (cases_eq i n)

    with-last : Committed chip look n → ((i : ℕ) → i < n → Committed chip look i → ⊥) ⊎ ((s : ℕ) × Believed n chip look s) → (s : ℕ) × Believed (suc n) chip look s
    with-last c (inl none) = (n, (omega arith, c, split (λ i. Committed chip look i → (chip i).key ≤ (chip n).key) (λ d. omega arith) (λ i l d. absurd (none i l d))))
    with-last c (inr (s, b)) =
        ⊎_elim
        (λ (h : (chip s).key < (chip n).key). (n, (omega arith, c, split (λ i. Committed chip look i → (chip i).key ≤ (chip n).key) (λ d. omega arith) (λ i l d. omega (arith, b.2 i l d)))))
        (λ (h : (chip n).key ≤ (chip s).key). (s, (omega (arith, b.0), b.1, split (λ i. Committed chip look i → (chip i).key ≤ (chip s).key) (λ d. h) b.2)))
        (cases_lt (chip s).key (chip n).key)

    without-last : (Committed chip look n → ⊥) → ((i : ℕ) → i < n → Committed chip look i → ⊥) ⊎ ((s : ℕ) × Believed n chip look s) → ((i : ℕ) → i < suc n → Committed chip look i → ⊥) ⊎ ((s : ℕ) × Believed (suc n) chip look s)
    without-last c (inl none) = inl (split (λ i. Committed chip look i → ⊥) c none)
    without-last c (inr (s, b)) = inr (s, (omega (arith, b.0), b.1, split (λ i. Committed chip look i → (chip i).key ≤ (chip s).key) (λ d. absurd (c d)) b.2))

pub recovers : Recovers
recovers n chip cuts r look =
    let k = safe r in
    let a = k.0 in
    let m = k.2 in
    let whole : Committed chip look a = (seen_written _ _ (ap (λ (u : Slot). u.body) m.is ∙ m.body), seen_written _ _ (ap (λ (u : Slot). u.commit) m.is ∙ m.commit)) in (
      ⊎_elim (λ none. absurd (none a m.inside whole)) (λ b. b) (best chip look n),
      λ s b. let f = believed_sound n chip a k.1 cuts m look s b in (f.0, f.1),
    )

-- ---- eras

bad_few : (b : Bool) → (b ≡ true) → cond {A = ℕ} b 1 0 ≡ 1
bad_few b e = cond-true {A = ℕ} b 1 0 e

-- every key was given when no more had failed than now, and that of a slot that failed when fewer had
record Eras (n : ℕ) (chip : Chip) : Type 0 where
  all : (i : ℕ) → i < n → (chip i).era ≤ bad_slots n chip
  failed : (i : ℕ) → i < n → (chip i).bad ≡ true → (chip i).era < bad_slots n chip

-- a good slot changes
eras_put : (n : ℕ) (chip : Chip) (x : ℕ) (e : Slot) → x < n → (chip x).bad ≡ false → e.era ≤ bad_slots n chip → Eras n chip → Eras n (put chip x e)
eras_put n chip x e l g h k =
    let p = sum-put (λ (u : Slot). cond u.bad 1 0) chip x e n l in
    let z = cond-false {A = ℕ} (chip x).bad 1 0 g in
    record {
      all = λ i li. cond_both (eqb i x) e (chip i) (λ (u : Slot). u.era ≤ bad_slots n (put chip x e)) (λ q. omega arith) (λ q. omega (arith, k.all i li));
      failed =
          λ i li.
          cond_both (eqb i x) e (chip i) (λ (u : Slot). u.bad ≡ true → u.era < bad_slots n (put chip x e))
          (λ q b. let w = bad_few e.bad b in omega arith)
          (λ q b. omega (arith, k.failed i li b));
    }

-- the slot that was taken is good
abbrev Taken : (n : ℕ) → Chip → Phase → Type 0
Taken n chip off = Unit {0}
Taken n chip (rising look s) = Unit {0}
Taken n chip (opened look s w) = (w < n) × ((chip w).bad ≡ false)
Taken n chip (filled look s w) = (w < n) × ((chip w).bad ≡ false)

-- the slot to erase is good
erased_good : (n : ℕ) (chip : Chip) (look : Look) (s x : ℕ) → Target n chip look s x → (x < n) × ((chip x).bad ≡ false)
erased_good n chip look s x (inl u) = (u.0, u.1)
erased_good n chip look s x (inr u) = (u.1.0, u.1.2)

eras : {n extra : ℕ} {chip : Chip} {c : ℕ} {p : Phase} → Life n extra chip c p → Eras n chip × Taken n chip p
eras {n} (Life.first h) =
    (record { all = λ i l. low i; failed = λ i l b. absurd (both_ways (first_chip i).bad (good i) b) }, tt)
  where
    low : (i : ℕ) → (first_chip i).era ≤ bad_slots n first_chip
    low i = cond_both (eqb i 0) (record { key = 1; era = 0; body = written; commit = written; bad = false; current = true }) erased_slot (λ (u : Slot). u.era ≤ bad_slots n first_chip) (λ e. omega arith) (λ e. omega arith)

    good : (i : ℕ) → (first_chip i).bad ≡ false
    good i = cond_both (eqb i 0) (record { key = 1; era = 0; body = written; commit = written; bad = false; current = true }) erased_slot (λ (u : Slot). u.bad ≡ false) (λ e. refl) (λ e. refl)
eras (Life.looks look s r b) = ((eras r).0, tt)
eras {n} (Life.clears {chip = chip} x r u) = (eras_put n chip x erased_slot u.0 u.1 (omega arith) (eras r).0, tt)
eras {n} (Life.takes {chip = chip} w r cl t) =
    (eras_put n chip w erased_slot t.0 t.2 (omega arith) (eras r).0, (t.0, ap (λ (u : Slot). u.bad) (at_same chip w erased_slot)))
eras {n} (Life.erase_fails {chip = chip} {look = look} {s = s} x r t) =
    let k = (eras r).0 in
    let g = erased_good n chip look s x t in
    (eras_put n chip x (half_erased true (chip x)) g.0 g.1 (k.all x g.0) k, tt)
eras {n} (Life.erase_cut {chip = chip} {look = look} {s = s} x r t h) =
    let k = (eras r).0 in
    let g = erased_good n chip look s x t in
    (eras_put n chip x (half_erased false (chip x)) g.0 g.1 (k.all x g.0) k, tt)
eras {n} (Life.fills {chip = chip} {s = s} {w = w} k r h) =
    let e = eras r in
    let new : Slot = copy_of (chip s) (bad_slots n chip) k written blank false in
    (eras_put n chip w new e.1.0 e.1.1 (omega arith) e.0, (e.1.0, ap (λ (u : Slot). u.bad) (at_same chip w new)))
eras {n} (Life.fill_fails {chip = chip} {s = s} {w = w} k r h) =
    let e = eras r in
    (eras_put n chip w (copy_of (chip s) (bad_slots n chip) k torn blank true) e.1.0 e.1.1 (omega arith) e.0, tt)
eras {n} (Life.fill_cut {chip = chip} {s = s} {w = w} k r h l) =
    let e = eras r in
    (eras_put n chip w (copy_of (chip s) (bad_slots n chip) k torn blank false) e.1.0 e.1.1 (omega arith) e.0, tt)
eras (Life.commits r) = let e = (eras r).0 in (record { all = e.all; failed = e.failed }, tt)
eras {n} (Life.commit_fails {chip = chip} {w = w} r) =
    let e = eras r in
    (eras_put n chip w (copy_of (chip w) (chip w).era (chip w).key written torn true) e.1.0 e.1.1 (e.0.all w e.1.0) e.0, tt)
eras {n} (Life.commit_cut {chip = chip} {w = w} r l) =
    let e = eras r in
    (eras_put n chip w (copy_of (chip w) (chip w).era (chip w).key written torn false) e.1.0 e.1.1 (e.0.all w e.1.0) e.0, tt)
eras (Life.stops r o h) = ((eras r).0, tt)

pub failed_below : FailedBelow
failed_below n extra chip cuts p r i l b = (eras r).0.failed i l b

-- ---- one cut more

two : (P : ℕ → Type 0) → P 0 → P 1 → (i : ℕ) → i < 2 → P i
two P a b zero l = a
two P a b (suc zero) l = b
two P a b (suc (suc i)) l = absurd (omega arith)

abbrev nothing_seen : Look
nothing_seen = record { bodies = λ i. false; commits = λ i. false }

abbrev all_seen : Look
all_seen = record { bodies = λ i. true; commits = λ i. true }

-- slot 1 is erased,
abbrev chip1 : Chip
chip1 = put first_chip 1 erased_slot

-- filled from slot 0,
abbrev chip2 : Chip
chip2 = put chip1 1 (copy_of (chip1 0) (bad_slots 2 chip1) 2 written blank false)

-- and cut at its commit page;
abbrev chip3 : Chip
chip3 = put chip2 1 (copy_of (chip2 1) (chip2 1).era (chip2 1).key written torn false)

-- the next life believes it, takes slot 0, and is cut while it erases that
abbrev chip4 : Chip
chip4 = put chip3 0 (half_erased false (chip3 0))

apart_numbers : ◌≡◌ {A = ℕ} 1 0 → ⊥
apart_numbers e = omega arith

life1 : Life 2 1 first_chip 0 (rising nothing_seen 0)
life1 =
    Life.looks nothing_seen 0 (Life.first (lit< tt))
    (lit< tt, (tt, tt), two (λ i. Committed first_chip nothing_seen i → (first_chip i).key ≤ (first_chip 0).key) (λ c. lit≤ tt) (λ c. absurd c.0))

life2 : Life 2 1 chip1 0 (opened nothing_seen 0 1)
life2 =
    Life.takes 1 life1
    (two (λ i. (first_chip i).bad ≡ false → (first_chip i).body ≡ torn → false ≡ true) (λ g t. absurd (not_torn written refl t)) (λ g t. absurd (torn_not_blank blank t refl)))
    (lit< tt, apart_numbers, refl, inl refl)

life3 : Life 2 1 chip2 0 (filled nothing_seen 0 1)
life3 =
    Life.fills 2 life2
    (two (λ i. Seen (chip1 i).body false ⊎ ((chip1 i).bad ≡ true) → (chip1 i).key < 2) (λ r. lit< tt) (λ r. lit< tt))

life4 : Life 2 1 chip3 1 off
unfolding sum_of
life4 = Life.commit_cut life3 (lit< tt)

life5 : Life 2 1 chip3 1 (rising all_seen 1)
life5 =
    Life.looks all_seen 1 life4
    (lit< tt, (tt, refl), two (λ i. Committed chip3 all_seen i → (chip3 i).key ≤ (chip3 1).key) (λ c. lit≤ tt) (λ c. lit≤ tt))

life6 : Life 2 1 chip4 2 off
unfolding sum_of
life6 =
    Life.erase_cut 0 life5
    (inr (
      (λ i l g t. refl),
      (
        lit< tt,
        (λ e. apart_numbers (sym e)),
        refl,
        inr (two (λ i. (i ≡ 1 → ⊥) → (chip3 i).bad ≡ false → ((chip3 i).body ≡ blank → ⊥) × ((chip3 0).key ≤ (chip3 i).key)) (λ ne g. (not_blank written refl, lit≤ tt)) (λ ne g. absurd (ne refl))),
      ),
    ))
    (lit< tt)

pub one_cut_more : OneCutMore
one_cut_more = (chip4, 2, life6, nothing_seen, two (λ s. Committed chip4 nothing_seen s → ⊥) (λ c. both_ways false refl c.0) (λ c. both_ways false refl c.1))
