-- Blocks are taken in turn, and so wear evenly. Assumes nothing.
use Rattle.std.proofs.Common.{◌≡◌, ℕ, zero, suc, ◌+◌, ◌*◌, ◌<◌, ◌≤◌, eqb, ◌⊎◌, sym, refl, ap, ◌∙◌, subst, inl, inr, ⊎_elim, suc-mul, arith}
use Rattle.std.proofs.lemmas.Bool.{cond_both, eqb-true, eqb-false, cond-true, cond-false, eq-eqb, ne_eqb, cases_eq}
use Rattle.laws.specs.Wear.{Place, free, used, bad, Good, Block, Wear, unworn, put, with_block, Next, as_taken, moved, cleared, take_block, Step, Steps, TakenInTurn, WornEvenly, counted, count_good, WearBounded}

free_good : (p : Place) → p ≡ free → Good p
free_good p e f = let z : free ≡ bad = sym e ∙ f in absurd (differ z)
  where
    differ : free ≡ bad → ⊥
    differ q = let n : ◌≡◌ {A = ℕ} 0 1 = cc in omega arith

used_good : (p : Place) → p ≡ used → Good p
used_good p e f = let z : used ≡ bad = sym e ∙ f in absurd (differ z)
  where
    differ : used ≡ bad → ⊥
    differ q = let n : ◌≡◌ {A = ℕ} 0 1 = cc in omega arith

not_both : (p : Place) → p ≡ free → p ≡ used → ⊥
not_both p e f = let z : free ≡ used = sym e ∙ f in let n : ◌≡◌ {A = ℕ} 0 1 = cc in omega arith

free_or_used : (p : Place) → Good p → (p ≡ free) ⊎ (p ≡ used)
free_or_used free g = inl refl
free_or_used used g = inr refl
free_or_used bad g = absurd (g refl)

-- ---- what holds of each block, and of each two, where one has changed

module _ {A : Type 0} (n : ℕ) (f : ℕ → A) (y : ℕ) (v : A) where
  each : (P : ℕ → A → Type 0) → P y v → ((x : ℕ) → x < n → (x ≡ y → ⊥) → P x (f x)) → (x : ℕ) → x < n → P x (put f y v x)
  each P here there x h =
      cond_both (eqb x y) v (f x) (P x)
      (λ e. subst (λ z. P z v) (sym (eqb-true x y e)) here)
      (λ e. there x h (eqb-false x y e))

  each_two : (P : A → A → Type 0) → P v v → ((x : ℕ) → x < n → (x ≡ y → ⊥) → P v (f x)) → ((b : ℕ) → b < n → (b ≡ y → ⊥) → P (f b) v) → ((b x : ℕ) → b < n → x < n → P (f b) (f x)) → (b x : ℕ) → b < n → x < n → P (put f y v b) (put f y v x)
  each_two P both left right none b x hb hx =
      each (λ i w. P w (put f y v x))
      (each (λ i w. P v w) both left x hx)
      (λ i hi ne. each (λ j w. P (f i) w) (right i hi ne) (λ j hj nj. none i j hi hj) x hx)
      b hb

-- ---- evenly

-- of two blocks
record Even (b x : Block) : Type 0 where
  weak : b.erased ≤ x.taken + b.cost + 1
  behind : b.number ≤ x.number → b.erased ≤ x.taken + b.cost
  out : b.place ≡ free → x.place ≡ used → b.erased ≤ x.taken + b.cost

abbrev Both : Block → Block → Type 0
Both b x = Good b.place → Good x.place → Even b x

record Turning (blocks : ℕ) (w : Wear) : Type 0 where
  below : (x : ℕ) → x < blocks → (w.block x).number ≤ w.top
  even : (b x : ℕ) → b < blocks → x < blocks → Both (w.block b) (w.block x)

turning_take : (blocks : ℕ) (w : Wear) (y : ℕ) → Next blocks w y → Turning blocks w → Turning blocks (take_block w y)
turning_take blocks w y n k =
    let g = free_good (w.block y).place n.1 in
    record {
      below = each blocks w.block y _ (λ x u. u.number ≤ w.top + 1) (omega arith) (λ x h ne. omega (arith, k.below x h));
      even =
          each_two blocks w.block y _ Both
          (λ p q. let e = k.even y y n.0 n.0 g g in let s = e.behind (omega arith) in record { weak = omega arith; behind = λ i. omega arith; out = λ i j. omega arith })
          (λ x h ne p q.
          let e = k.even y x n.0 h g q in
          let s : (w.block y).erased ≤ (w.block x).taken + (w.block y).cost =
          ⊎_elim (λ i. e.behind (n.2 x h i)) (λ i. e.out n.1 i) (free_or_used (w.block x).place q) in
          record { weak = omega arith; behind = λ i. absurd (omega (arith, k.below x h)); out = λ i j. absurd (not_both used i refl) })
          (λ b h ne p q. let e = k.even b y h n.0 p g in let s = e.weak in record { weak = omega arith; behind = λ i. omega arith; out = λ i j. omega arith })
          k.even;
    }

turning_free : (blocks : ℕ) (w : Wear) (y : ℕ) → y < blocks → (w.block y).place ≡ used → ((x : ℕ) → x < blocks → (w.block x).place ≡ used → (w.block y).number ≤ (w.block x).number) → Turning blocks w → Turning blocks (with_block w y (moved free 0 (w.block y)))
turning_free blocks w y l u o k =
    let g = used_good (w.block y).place u in
    record {
      below = each blocks w.block y _ (λ x v. v.number ≤ w.top) (k.below y l) (λ x h ne. k.below x h);
      even =
          each_two blocks w.block y _ Both
          (λ p q. let e = k.even y y l l g g in let s = e.behind (omega arith) in record { weak = omega arith; behind = λ i. omega arith; out = λ i j. omega arith })
          (λ x h ne p q.
          let e = k.even y x l h g q in
          let s = e.weak in
          record { weak = omega arith; behind = λ i. omega (arith, e.behind i); out = λ i j. omega (arith, e.behind (o x h j)) })
          (λ b h ne p q. let e = k.even b y h l p g in record { weak = e.weak; behind = e.behind; out = λ i j. absurd (not_both free refl j) })
          k.even;
    }

turning_drop : (blocks : ℕ) (w : Wear) (y : ℕ) → y < blocks → (w.block y).place ≡ used → Turning blocks w → Turning blocks (with_block w y (moved free 1 (w.block y)))
turning_drop blocks w y l u k =
    let g = used_good (w.block y).place u in
    record {
      below = each blocks w.block y _ (λ x v. v.number ≤ w.top) (k.below y l) (λ x h ne. k.below x h);
      even =
          each_two blocks w.block y _ Both
          (λ p q. let s = (k.even y y l l g g).weak in record { weak = omega arith; behind = λ i. omega arith; out = λ i j. omega arith })
          (λ x h ne p q. let s = (k.even y x l h g q).weak in record { weak = omega arith; behind = λ i. omega arith; out = λ i j. omega arith })
          (λ b h ne p q. let e = k.even b y h l p g in record { weak = e.weak; behind = e.behind; out = λ i j. absurd (not_both free refl j) })
          k.even;
    }

turning_void : (blocks : ℕ) (w : Wear) (y : ℕ) → y < blocks → (w.block y).place ≡ free → Turning blocks w → Turning blocks (with_block w y (cleared 0 2 (w.block y)))
turning_void blocks w y l u k =
    let g = free_good (w.block y).place u in
    record {
      below = each blocks w.block y _ (λ x v. v.number ≤ w.top) (omega arith) (λ x h ne. k.below x h);
      even =
          each_two blocks w.block y _ Both
          (λ p q. let s = (k.even y y l l g g).weak in record { weak = omega arith; behind = λ i. omega arith; out = λ i j. omega arith })
          (λ x h ne p q. let s = (k.even y x l h g q).weak in record { weak = omega arith; behind = λ i. omega arith; out = λ i j. omega arith })
          (λ b h ne p q. let e = k.even b y h l p g in record { weak = e.weak; behind = λ i. e.behind (omega arith); out = λ i j. absurd (not_both free refl j) })
          k.even;
    }

turning_waste : (blocks : ℕ) (w : Wear) (y : ℕ) → y < blocks → (w.block y).place ≡ free → Turning blocks w → Turning blocks (with_block w y (cleared (w.block y).number 1 (w.block y)))
turning_waste blocks w y l u k =
    let g = free_good (w.block y).place u in
    record {
      below = each blocks w.block y _ (λ x v. v.number ≤ w.top) (k.below y l) (λ x h ne. k.below x h);
      even =
          each_two blocks w.block y _ Both
          (λ p q. let e = k.even y y l l g g in let s = e.behind (omega arith) in record { weak = omega arith; behind = λ i. omega arith; out = λ i j. omega arith })
          (λ x h ne p q.
          let e = k.even y x l h g q in
          let s = e.weak in
          record { weak = omega arith; behind = λ i. omega (arith, e.behind i); out = λ i j. omega (arith, e.out u j) })
          (λ b h ne p q. let e = k.even b y h l p g in record { weak = e.weak; behind = e.behind; out = λ i j. absurd (not_both free refl j) })
          k.even;
    }

turning_fail : (blocks : ℕ) (w : Wear) (y : ℕ) → y < blocks → Turning blocks w → Turning blocks (with_block w y (moved bad 0 (w.block y)))
turning_fail blocks w y l k =
    record {
      below = each blocks w.block y _ (λ x v. v.number ≤ w.top) (k.below y l) (λ x h ne. k.below x h);
      even = each_two blocks w.block y _ Both (λ p q. absurd (p refl)) (λ x h ne p q. absurd (p refl)) (λ b h ne p q. absurd (q refl)) k.even;
    }

turning_step : (blocks : ℕ) {w v : Wear} → Turning blocks w → Step blocks w v → Turning blocks v
turning_step blocks {w} k (Step.takes b n) = turning_take blocks w b n k
turning_step blocks {w} k (Step.frees b l u o) = turning_free blocks w b l u o k
turning_step blocks {w} k (Step.drops b l u) = turning_drop blocks w b l u k
turning_step blocks {w} k (Step.voids b l u) = turning_void blocks w b l u k
turning_step blocks {w} k (Step.wastes b l u) = turning_waste blocks w b l u k
turning_step blocks {w} k (Step.fails b l) = turning_fail blocks w b l k

turning : (blocks : ℕ) {w : Wear} → Steps blocks unworn w → Turning blocks w
turning blocks Steps.none =
    record { below = λ x h. omega arith; even = λ b x hb hx p q. record { weak = omega arith; behind = λ i. omega arith; out = λ i j. omega arith } }
turning blocks (Steps.more r s) = turning_step blocks (turning blocks r) s

pub worn_evenly : WornEvenly
worn_evenly blocks w r b x hb hx p q = ((turning blocks r).even b x hb hx p q).weak

-- ---- in turn

-- Of a block b that was numbered n when it was taken, and the others were f: they are g now, and b is v. What stands as long as it
-- isn't taken again and no cut costs it anything.
record Round (blocks : ℕ) (f : ℕ → Block) (b n : ℕ) (g : ℕ → Block) (v : Block) (top : ℕ) : Type 0 where
  high : n ≤ top
  takes : (x : ℕ) → x < blocks → (f x).taken ≤ (g x).taken
  taken : (f b).taken ≤ v.taken
  cost : (f b).cost ≤ v.cost
  same : v.taken ≡ (f b).taken → v.cost ≡ (f b).cost → v.number ≡ n
  others : v.taken ≡ (f b).taken → v.cost ≡ (f b).cost → (x : ℕ) → x < blocks → (x ≡ b → ⊥) → ((f x).taken < (g x).taken) ⊎ ((g x).number < n)
  in_log : v.taken ≡ (f b).taken → v.cost ≡ (f b).cost → v.place ≡ free → (x : ℕ) → x < blocks → (x ≡ b → ⊥) → (g x).place ≡ used → n ≤ (g x).number

module _ (blocks : ℕ) (f : ℕ → Block) (b n : ℕ) (g : ℕ → Block) (v : Block) (top : ℕ) (k : Round blocks f b n g v top) where
  -- another block changes
  round-other : (y : ℕ) (new : Block) (then : ℕ) → y < blocks → (y ≡ b → ⊥) → top ≤ then → (g y).taken ≤ new.taken → ((g y).taken < new.taken) ⊎ (new.number ≤ (g y).number) → (new.place ≡ used → (n ≤ new.number) ⊎ (((g y).place ≡ used) × ((g y).number ≤ new.number))) → Round blocks f b n (put g y new) v then
  round-other y new then l ne t h m o =
      let a = k.high in
      let d = k.takes y l in
      record {
        high = omega arith;
        takes = each blocks g y new (λ x z. (f x).taken ≤ z.taken) (omega arith) (λ x i j. k.takes x i);
        taken = k.taken;
        cost = k.cost;
        same = k.same;
        others =
            λ p q.
            each blocks g y new (λ x z. (x ≡ b → ⊥) → ((f x).taken < z.taken) ⊎ (z.number < n))
            (λ j. ⊎_elim (λ i. inl (omega arith)) (λ i. ⊎_elim (λ e. inl (omega arith)) (λ e. inr (omega arith)) (k.others p q y l ne)) m)
            (λ x i _ j. k.others p q x i j);
        in_log =
            λ p q r.
            each blocks g y new (λ x z. (x ≡ b → ⊥) → z.place ≡ used → n ≤ z.number)
            (λ j u. ⊎_elim (λ i. i) (λ i. let e = k.in_log p q r y l ne i.0 in omega (arith, i.1)) (o u))
            (λ x i _ j u. k.in_log p q r x i j u);
      }

  -- it is taken again, or a cut costs it something
  round-ends : (new : Block) (then : ℕ) → top ≤ then → (g b).taken ≤ new.taken → v.taken ≤ new.taken → v.cost ≤ new.cost → (v.taken < new.taken) ⊎ (v.cost < new.cost) → Round blocks f b n (put g b new) new then
  round-ends new then t h ht hc m =
      let a = k.high in
      let d = k.taken in
      let c = k.cost in
      let over : new.taken ≡ (f b).taken → new.cost ≡ (f b).cost → ⊥ = λ p q. ⊎_elim (λ i. omega arith) (λ i. omega arith) m in
      record {
        high = omega arith;
        takes = each_all;
        taken = omega arith;
        cost = omega arith;
        same = λ p q. absurd (over p q);
        others = λ p q. absurd (over p q);
        in_log = λ p q. absurd (over p q);
      }
    where
      each_all : (x : ℕ) → x < blocks → (f x).taken ≤ (put g b new x).taken
      each_all x i =
          cond_both (eqb x b) new (g x) (λ z. (f x).taken ≤ z.taken)
          (λ e. let d = k.takes x i in omega (arith, ap (λ y. (g y).taken) (eqb-true x b e)))
          (λ e. k.takes x i)

  -- it is freed in order, or fails
  round-here : (new : Block) → (g b).taken ≤ new.taken → new.taken ≡ v.taken → new.cost ≡ v.cost → new.number ≡ v.number → (new.place ≡ free → (x : ℕ) → x < blocks → (g x).place ≡ used → v.number ≤ (g x).number) → Round blocks f b n (put g b new) new top
  round-here new h ht hc hn o =
      let d = k.taken in
      let c = k.cost in
      record {
        high = k.high;
        takes = each_all;
        taken = omega arith;
        cost = omega arith;
        same = λ p q. hn ∙ k.same (sym ht ∙ p) (sym hc ∙ q);
        others =
            λ p q x i j.
            cond_both (eqb x b) new (g x) (λ z. ((f x).taken < z.taken) ⊎ (z.number < n))
            (λ e. absurd (j (eqb-true x b e)))
            (λ e. k.others (sym ht ∙ p) (sym hc ∙ q) x i j);
        in_log =
            λ p q r x i j.
            cond_both (eqb x b) new (g x) (λ z. z.place ≡ used → n ≤ z.number)
            (λ e u. absurd (j (eqb-true x b e)))
            (λ e u. let s = k.same (sym ht ∙ p) (sym hc ∙ q) in omega (arith, o r x i u));
      }
    where
      each_all : (x : ℕ) → x < blocks → (f x).taken ≤ (put g b new x).taken
      each_all x i =
          cond_both (eqb x b) new (g x) (λ z. (f x).taken ≤ z.taken)
          (λ e. let d = k.takes x i in omega (arith, ap (λ y. (g y).taken) (eqb-true x b e)))
          (λ e. k.takes x i)

abbrev Rounds : (blocks : ℕ) (f : ℕ → Block) (b n : ℕ) → Wear → Type 0
Rounds blocks f b n w = Round blocks f b n w.block (w.block b) w.top

at_other : (g : ℕ → Block) (y : ℕ) (new : Block) (b : ℕ) → (y ≡ b → ⊥) → put g y new b ≡ g b
at_other g y new b ne = cond-false (eqb b y) new (g b) (ne_eqb b y (λ e. ne (sym e)))

at_same : (g : ℕ → Block) (b : ℕ) (new : Block) → put g b new b ≡ new
at_same g b new = cond-true (eqb b b) new (g b) (eq-eqb b b refl)

-- a change of one block y, by what it is if y is b and by what it is else
round_change : (blocks : ℕ) (f : ℕ → Block) (b n : ℕ) (g : ℕ → Block) (y : ℕ) (new : Block) (then : ℕ) → (y ≡ b → Round blocks f b n (put g b new) new then) → ((y ≡ b → ⊥) → Round blocks f b n (put g y new) (g b) then) → Round blocks f b n (put g y new) (put g y new b) then
round_change blocks f b n g y new then here there =
    ⊎_elim
    (λ (e : y ≡ b). subst (λ z. Round blocks f b n (put g z new) (put g z new b) then) (sym e) (subst (λ (u : Block). Round blocks f b n (put g b new) u then) (sym (at_same g b new)) (here e)))
    (λ (e : y ≡ b → ⊥). subst (λ (u : Block). Round blocks f b n (put g y new) u then) (sym (at_other g y new b e)) (there e))
    (cases_eq y b)

round_step : (blocks : ℕ) (f : ℕ → Block) (b n : ℕ) {w v : Wear} → Rounds blocks f b n w → Step blocks w v → Rounds blocks f b n v
round_step blocks f b n {w} k (Step.takes y s) =
    round_change blocks f b n w.block y _ (w.top + 1)
    (λ e. round-ends blocks f b n w.block (w.block b) w.top k _ (w.top + 1) (omega arith) (omega (arith, ap (λ z. (w.block z).taken) e)) (omega (arith, ap (λ z. (w.block z).taken) e)) (omega (arith, ap (λ z. (w.block z).cost) e)) (inl (omega (arith, ap (λ z. (w.block z).taken) e))))
    (λ e. round-other blocks f b n w.block (w.block b) w.top k y _ (w.top + 1) s.0 e (omega arith) (omega arith) (inl (omega arith)) (λ u. inl (omega (arith, k.high))))
round_step blocks f b n {w} k (Step.frees y l u o) =
    round_change blocks f b n w.block y _ w.top
    (λ e. round-here blocks f b n w.block (w.block b) w.top k _ (omega (arith, ap (λ z. (w.block z).taken) e)) (ap (λ z. (w.block z).taken) e) (omega (arith, ap (λ z. (w.block z).cost) e)) (ap (λ z. (w.block z).number) e) (λ r x i j. omega (arith, o x i j, ap (λ z. (w.block z).number) e)))
    (λ e. round-other blocks f b n w.block (w.block b) w.top k y _ w.top l e (omega arith) (omega arith) (inr (omega arith)) (λ r. absurd (not_both free refl r)))
round_step blocks f b n {w} k (Step.drops y l u) =
    round_change blocks f b n w.block y _ w.top
    (λ e. round-ends blocks f b n w.block (w.block b) w.top k _ w.top (omega arith) (omega (arith, ap (λ z. (w.block z).taken) e)) (omega (arith, ap (λ z. (w.block z).taken) e)) (omega (arith, ap (λ z. (w.block z).cost) e)) (inr (omega (arith, ap (λ z. (w.block z).cost) e))))
    (λ e. round-other blocks f b n w.block (w.block b) w.top k y _ w.top l e (omega arith) (omega arith) (inr (omega arith)) (λ r. absurd (not_both free refl r)))
round_step blocks f b n {w} k (Step.voids y l u) =
    round_change blocks f b n w.block y _ w.top
    (λ e. round-ends blocks f b n w.block (w.block b) w.top k _ w.top (omega arith) (omega (arith, ap (λ z. (w.block z).taken) e)) (omega (arith, ap (λ z. (w.block z).taken) e)) (omega (arith, ap (λ z. (w.block z).cost) e)) (inr (omega (arith, ap (λ z. (w.block z).cost) e))))
    (λ e. round-other blocks f b n w.block (w.block b) w.top k y _ w.top l e (omega arith) (omega arith) (inr (omega arith)) (λ r. absurd (not_both free refl r)))
round_step blocks f b n {w} k (Step.wastes y l u) =
    round_change blocks f b n w.block y _ w.top
    (λ e. round-ends blocks f b n w.block (w.block b) w.top k _ w.top (omega arith) (omega (arith, ap (λ z. (w.block z).taken) e)) (omega (arith, ap (λ z. (w.block z).taken) e)) (omega (arith, ap (λ z. (w.block z).cost) e)) (inr (omega (arith, ap (λ z. (w.block z).cost) e))))
    (λ e. round-other blocks f b n w.block (w.block b) w.top k y _ w.top l e (omega arith) (omega arith) (inr (omega arith)) (λ r. absurd (not_both free refl r)))
round_step blocks f b n {w} k (Step.fails y l) =
    round_change blocks f b n w.block y _ w.top
    (λ e. round-here blocks f b n w.block (w.block b) w.top k _ (omega (arith, ap (λ z. (w.block z).taken) e)) (ap (λ z. (w.block z).taken) e) (omega (arith, ap (λ z. (w.block z).cost) e)) (ap (λ z. (w.block z).number) e) (λ r. absurd (free_good bad r refl)))
    (λ e. round-other blocks f b n w.block (w.block b) w.top k y _ w.top l e (omega arith) (omega arith) (inr (omega arith)) (λ r. absurd (used_good bad r refl)))

rounds : (blocks : ℕ) (f : ℕ → Block) (b n : ℕ) {w v : Wear} → Rounds blocks f b n w → Steps blocks w v → Rounds blocks f b n v
rounds blocks f b n k Steps.none = k
rounds blocks f b n k (Steps.more r s) = round_step blocks f b n (rounds blocks f b n k r) s

-- it begins where the block is taken
round_begins : (blocks : ℕ) (w : Wear) (b : ℕ) → b < blocks → Turning blocks w → Rounds blocks (take_block w b).block b (w.top + 1) (take_block w b)
round_begins blocks w b l k =
    record {
      high = omega arith;
      takes = λ x h. omega arith;
      taken = omega arith;
      cost = omega arith;
      same = λ p q. ap (λ (u : Block). u.number) here;
      others = λ p q x i j. inr (let e = ap (λ (u : Block). u.number) (at_other w.block b (as_taken (w.top + 1) (w.block b)) x (λ z. j (sym z))) in omega (arith, k.below x i));
      in_log = λ p q r x i j u. absurd (not_both used (sym (ap (λ (z : Block). z.place) here) ∙ r) refl);
    }
  where
    here : (take_block w b).block b ≡ as_taken (w.top + 1) (w.block b)
    here = at_same w.block b (as_taken (w.top + 1) (w.block b))

pub taken_in_turn : TakenInTurn
taken_in_turn blocks w r b n v s t c m x h ne g =
    let k = rounds blocks (take_block w b).block b (w.top + 1) (round_begins blocks w b n.0 (turning blocks r)) s in
    let d : (v.block b).cost ≡ ((take_block w b).block b).cost = c ∙ sym (ap (λ (u : Block). u.cost) (at_same w.block b (as_taken (w.top + 1) (w.block b)))) in
    let e : ((take_block w b).block x).taken ≡ (w.block x).taken = ap (λ (u : Block). u.taken) (at_other w.block b (as_taken (w.top + 1) (w.block b)) x (λ z. ne (sym z))) in
    let number = k.same t d in
    let low : w.top + 1 ≤ (v.block x).number =
    ⊎_elim (λ i. omega (arith, m.2 x h i)) (λ i. k.in_log t d m.1 x h ne i) (free_or_used (v.block x).place g) in
    ⊎_elim (λ i. omega arith) (λ i. absurd (omega arith)) (k.others t d x h ne)

-- ---- all takings together

-- how often the first n blocks were taken
unfoldable all_taken : ℕ → (ℕ → Block) → ℕ
all_taken zero f = 0
all_taken (suc n) f = all_taken n f + (f n).taken

taken_none : (n : ℕ) → all_taken n unworn.block ≡ 0
unfolding all_taken
taken_none zero = refl
taken_none (suc n) = omega (arith, taken_none n)

taken-apart : (n : ℕ) (f : ℕ → Block) (b : ℕ) (v : Block) → n ≤ b → all_taken n (put f b v) ≡ all_taken n f
unfolding all_taken
taken-apart zero f b v h = refl
taken-apart (suc n) f b v h =
    let e = ap (λ (u : Block). u.taken) (at_other f b v n (λ z. omega arith)) in
    omega (arith, taken-apart n f b v (omega arith))

taken-put : (n : ℕ) (f : ℕ → Block) (b : ℕ) (v : Block) → b < n → all_taken n (put f b v) + (f b).taken ≡ all_taken n f + v.taken
unfolding all_taken
taken-put zero f b v h = absurd (omega arith)
taken-put (suc n) f b v h =
    ⊎_elim
    (λ (e : b ≡ n).
    let a = ap (λ (u : Block). u.taken) (at_same f b v) in
    let d = ap (λ x. (f x).taken) e in
    let c = ap (λ x. (put f b v x).taken) e in
    omega (arith, taken-apart n f b v (omega arith)))
    (λ (e : b ≡ n → ⊥).
    let a = ap (λ (u : Block). u.taken) (at_other f b v n e) in
    omega (arith, taken-put n f b v (omega arith)))
    (cases_eq b n)

all_step : (blocks : ℕ) {w v : Wear} → all_taken blocks w.block ≡ w.takings → Step blocks w v → all_taken blocks v.block ≡ v.takings
all_step blocks {w} k (Step.takes b n) = omega (arith, taken-put blocks w.block b (as_taken (w.top + 1) (w.block b)) n.0)
all_step blocks {w} k (Step.frees b l u o) = omega (arith, taken-put blocks w.block b (moved free 0 (w.block b)) l)
all_step blocks {w} k (Step.drops b l u) = omega (arith, taken-put blocks w.block b (moved free 1 (w.block b)) l)
all_step blocks {w} k (Step.voids b l u) = omega (arith, taken-put blocks w.block b (cleared 0 2 (w.block b)) l)
all_step blocks {w} k (Step.wastes b l u) = omega (arith, taken-put blocks w.block b (cleared (w.block b).number 1 (w.block b)) l)
all_step blocks {w} k (Step.fails b l) = omega (arith, taken-put blocks w.block b (moved bad 0 (w.block b)) l)

all_takings : (blocks : ℕ) {w : Wear} → Steps blocks unworn w → all_taken blocks w.block ≡ w.takings
all_takings blocks Steps.none = taken_none blocks
all_takings blocks (Steps.more r s) = all_step blocks (all_takings blocks r) s

-- one block more, which was taken t times
count_more : (p : Place) (g s t e c : ℕ) → (Good p → e ≤ t + c + 1) → g * e ≤ s + g * (c + 1) → counted p g * e ≤ s + t + counted p g * (c + 1)
count_more free g s t e c h k = omega (arith, h (free_good free refl), suc-mul g e, suc-mul g (c + 1))
count_more used g s t e c h k = omega (arith, h (used_good used refl), suc-mul g e, suc-mul g (c + 1))
count_more bad g s t e c h k = omega arith

count_this : (p : Place) (g s t e c : ℕ) → Good p → e ≤ t + c → g * e ≤ s + g * (c + 1) → counted p g * e < s + t + counted p g * (c + 1)
count_this free g s t e c y h k = omega (arith, suc-mul g e, suc-mul g (c + 1))
count_this used g s t e c y h k = omega (arith, suc-mul g e, suc-mul g (c + 1))
count_this bad g s t e c y h k = absurd (y refl)

count_past : (p : Place) (g s t e c : ℕ) → (Good p → e ≤ t + c + 1) → g * e < s + g * (c + 1) → counted p g * e < s + t + counted p g * (c + 1)
count_past free g s t e c h k = omega (arith, h (free_good free refl), suc-mul g e, suc-mul g (c + 1))
count_past used g s t e c h k = omega (arith, h (used_good used refl), suc-mul g e, suc-mul g (c + 1))
count_past bad g s t e c h k = omega arith

module _ (f : ℕ → Block) (e c : ℕ) where
  count-all : (n : ℕ) → ((x : ℕ) → x < n → Good (f x).place → e ≤ (f x).taken + c + 1) → count_good n f * e ≤ all_taken n f + count_good n f * (c + 1)
  unfolding all_taken count_good
  count-all zero h = omega arith
  count-all (suc n) h =
      count_more (f n).place (count_good n f) (all_taken n f) (f n).taken e c (h n (omega arith)) (count-all n (λ x i. h x (omega arith)))

  count-one : (n b : ℕ) → b < n → Good (f b).place → e ≤ (f b).taken + c → ((x : ℕ) → x < n → Good (f x).place → e ≤ (f x).taken + c + 1) → count_good n f * e < all_taken n f + count_good n f * (c + 1)
  unfolding all_taken count_good
  count-one zero b l y k h = absurd (omega arith)
  count-one (suc n) b l y k h =
      ⊎_elim
      (λ (i : b ≡ n).
      count_this (f n).place (count_good n f) (all_taken n f) (f n).taken e c (subst (λ x. Good (f x).place) i y) (subst (λ x. e ≤ (f x).taken + c) i k) (count-all n (λ x j. h x (omega arith))))
      (λ (i : b ≡ n → ⊥).
      count_past (f n).place (count_good n f) (all_taken n f) (f n).taken e c (h n (omega arith)) (count-one n b (omega arith) y k (λ x j. h x (omega arith))))
      (cases_eq b n)

pub wear_bounded : WearBounded
wear_bounded blocks w r b l y =
    let k = turning blocks r in
    let a = all_takings blocks r in
    let s = count-one w.block (w.block b).erased (w.block b).cost blocks b l y ((k.even b b l l y y).behind (omega arith)) (λ x h g. (k.even b x l h y g).weak) in
    omega arith
