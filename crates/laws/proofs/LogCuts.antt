-- What a cut leaves of the log. Assumes nothing.
use Rattle.std.proofs.Common.{◌≡◌, ℕ, ◌+◌, ◌<◌, ◌≤◌, true, false, eqb, ◌⊎◌, List, [], ◌∷◌, length, sym, refl, ap, ◌∙◌, inl, inr, ⊎_elim, arith}
use Rattle.std.proofs.lemmas.Bool.{cases_lt, cond_both, cond-true, cond-false, both_ways}
use Rattle.laws.specs.Log.{Record, Log, seal_kind, is_seal, live, held, contents, record_at, append, moved, reopened, CutLeaves, SinceSeal, Reopens, keep_of, ends_sealed, sealed, Ordered, WellFormed}
use Rattle.laws.specs.LogLaws.{CutSinceSeal, CutAfterSeal, CutLeavesSealed, ReopensKept, CutOfCopyChangesNone, KeepSuffices, KeepRises}
use Rattle.laws.proofs.LogSteps.{live_more, live_none, seal_none, move_none, copy_none, at_here, at_else}

-- ---- which records

pub cut_cases : {r : Record} {rs qs : List Record} → CutLeaves (r ∷ rs) qs → (qs ≡ r ∷ rs) ⊎ ((is_seal r ≡ false) × (qs ≡ rs))
cut_cases CutLeaves.whole = inl refl
cut_cases (CutLeaves.lost e) = inr (e, refl)

-- behind a seal
pub cut_sealed : {r : Record} {rs qs : List Record} → is_seal r ≡ true → CutLeaves (r ∷ rs) qs → qs ≡ r ∷ rs
cut_sealed {r} s c = ⊎_elim (λ e. e) (λ e. absurd (both_ways (is_seal r) e.0 s)) (cut_cases c)

cut_since : {rs qs : List Record} → CutLeaves rs qs → SinceSeal rs qs
cut_since CutLeaves.whole = SinceSeal.latest
cut_since (CutLeaves.lost e) = SinceSeal.earlier e SinceSeal.latest

pub cut_since_seal : CutSinceSeal
cut_since_seal l qs c s = (qs, cut_since c, refl)

pub cut_leaves_sealed : CutLeavesSealed
cut_leaves_sealed [] r rs qs s c = ([], cut_sealed s c)
cut_leaves_sealed (n ∷ ns) r rs qs s c = ⊎_elim (λ e. (n ∷ ns, e)) (λ e. (ns, e.1)) (cut_cases c)

-- ---- which contents

-- the newest record carries the tail of the log to which it was appended
pub append_reopens : (l : Log) (f k s : ℕ) (b : List ℕ) → Reopens (append f k s b l)
unfolding reopened
append_reopens l f k s b t = refl

pub reopens_kept : ReopensKept
reopens_kept = (append_reopens, λ l e r s. r s ∙ sym (move_none l e s))

pub cut_after_seal : CutAfterSeal
cut_after_seal l f s b qs c t =
    ap (λ (x : List Record). contents (reopened x) t) (cut_sealed refl c) ∙ append_reopens l f seal_kind s b t ∙ seal_none l f s b t

pub cut_of_copy : CutOfCopyChangesNone
cut_of_copy l i r e h qs c s =
    ⊎_elim
    (λ p. ap (λ (x : List Record). contents (reopened x) s) p ∙ append_reopens l 1 _ _ _ s ∙ copy_none l i e h s)
    (λ p. ap (λ (x : List Record). contents (reopened x) s) p.1 ∙ r s)
    (cut_cases c)

-- ---- form

pub ordered_on : (t u : ℕ) (rs : List Record) → t ≤ u → Ordered t rs → Ordered u rs
unfolding Ordered
ordered_on t u [] h r = tt
ordered_on t u (q ∷ rs) h r = (let a = r.0 in omega arith, r.1, r.2)

pub append_formed : (l : Log) (f k s : ℕ) (b : List ℕ) → WellFormed l → WellFormed (append f k s b l)
unfolding Ordered
append_formed l f k s b w = record { within = (let a = w.within in omega arith); ordered = (omega arith, w.within, w.ordered) }

pub moved_formed : (l : Log) → l.tail < length l.records → WellFormed l → WellFormed (moved l)
moved_formed l h w = record { within = omega arith; ordered = ordered_on l.tail (l.tail + 1) l.records (omega arith) w.ordered }

pub reopened_formed : (t : ℕ) (rs : List Record) → Ordered t rs → WellFormed (reopened rs)
unfolding Ordered reopened
reopened_formed t [] r = record { within = omega arith; ordered = tt }
reopened_formed t (q ∷ rs) r = record { within = (let a = r.1 in omega arith); ordered = (omega arith, r.1, r.2) }

pub cut_formed : (t : ℕ) {rs qs : List Record} → Ordered t rs → CutLeaves rs qs → WellFormed (reopened qs)
unfolding Ordered
cut_formed t {rs} r CutLeaves.whole = reopened_formed t rs r
cut_formed t r (CutLeaves.lost {r = q} {rs = rs} e) = reopened_formed q.tail rs r.2

-- ---- with a seal at the end

-- what holds of a log that ends with a seal, and of one with a seal more
pub of_sealed : (l : Log) (P : Log → Type 0) → (ends_sealed l.records ≡ true → P l) → P (append 2 seal_kind 0 [] l) → P (sealed l)
of_sealed l P f g = cond_both (ends_sealed l.records) l (append 2 seal_kind 0 [] l) P f (λ e. g)

pub sealed-same : (l : Log) (s : ℕ) → contents (sealed l) s ≡ contents l s
sealed-same l s = of_sealed l (λ (m : Log). contents m s ≡ contents l s) (λ e. refl) (seal_none l 2 0 [] s)

pub sealed_formed : (l : Log) → WellFormed l → WellFormed (sealed l)
sealed_formed l w = of_sealed l WellFormed (λ e. w) (append_formed l 2 seal_kind 0 [] w)

reopened_records : (rs : List Record) → (reopened rs).records ≡ rs
unfolding reopened
reopened_records [] = refl
reopened_records (r ∷ rs) = refl

ends_cut : (rs qs : List Record) → ends_sealed rs ≡ true → CutLeaves rs qs → qs ≡ rs
unfolding ends_sealed
ends_cut [] qs e c = absurd (both_ways false refl e)
ends_cut (r ∷ rs) qs e c = cut_sealed e c

-- a cut leaves it as it is
pub sealed_cut : (rs qs : List Record) → CutLeaves (sealed (reopened rs)).records qs → (s : ℕ) → contents (reopened qs) s ≡ contents (reopened rs) s
sealed_cut rs qs =
    of_sealed (reopened rs) (λ (m : Log). CutLeaves m.records qs → (s : ℕ) → contents (reopened qs) s ≡ contents (reopened rs) s)
    (λ e c s. ap (λ (x : List Record). contents (reopened x) s) (ends_cut (reopened rs).records qs e c ∙ reopened_records rs))
    (λ c s. cut_after_seal (reopened rs) 2 0 [] qs c s)

-- ---- what is to be kept

live_same :
    (t : ℕ) (rs qs : List Record) → length rs ≡ length qs →
    ((i : ℕ) → t ≤ i → i < length rs → record_at rs i ≡ record_at qs i) → live t rs ≡ live t qs
live_same t [] [] e f = refl
live_same t [] (q ∷ qs) e f = absurd (omega arith)
live_same t (r ∷ rs) [] e f = absurd (omega arith)
live_same t (r ∷ rs) (q ∷ qs) e f =
    ⊎_elim
    (λ (h : length rs < t). live_none t (r ∷ rs) (omega arith) ∙ sym (live_none t (q ∷ qs) (omega arith)))
    (λ (h : t ≤ length rs).
    let p : r ≡ q = sym (at_here r rs (length rs) refl) ∙ f (length rs) h (omega arith) ∙ at_here q qs (length rs) (omega arith) in
    let a : live t rs ≡ live t qs =
    live_same t rs qs (omega arith) (λ i k m. sym (at_else r rs i m) ∙ f i k (omega arith) ∙ at_else q qs i (omega arith)) in
    live_more t r rs h ∙ (λ j. p j ∷ a j) ∙ sym (live_more t q qs (omega arith)))
    (cases_lt (length rs) t)

-- records that agree from the newest one's tail on hold the same
reopened-agree :
    (u : ℕ) (rs qs : List Record) → Ordered u rs → length rs ≡ length qs →
    ((i : ℕ) → (reopened rs).tail ≤ i → i < length rs → record_at rs i ≡ record_at qs i) → (s : ℕ) → contents (reopened qs) s ≡ contents (reopened rs) s
unfolding Ordered reopened
reopened-agree u [] [] w e f s = refl
reopened-agree u [] (q ∷ qs) w e f s = absurd (omega arith)
reopened-agree u (r ∷ rs) [] w e f s = absurd (omega arith)
reopened-agree u (r ∷ rs) (q ∷ qs) w e f s =
    let p : r ≡ q = sym (at_here r rs (length rs) refl) ∙ f (length rs) w.1 (omega arith) ∙ at_here q qs (length rs) (omega arith) in
    ap (λ (x : Record). held (live x.tail (q ∷ qs)) s) (sym p) ∙ ap (λ (x : List Record). held x s) (sym (live_same r.tail (r ∷ rs) (q ∷ qs) e f))

ordered_first : (u : ℕ) (rs : List Record) → Ordered u rs → (reopened rs).tail ≤ u
unfolding Ordered reopened
ordered_first u [] w = omega arith
ordered_first u (r ∷ rs) w = w.0

ordered_rest : (u : ℕ) (r : Record) (rs : List Record) → Ordered u (r ∷ rs) → (r.tail ≤ length rs) × Ordered r.tail rs
unfolding Ordered
ordered_rest u r rs w = (w.1, w.2)

keep_tail : (r : Record) (rs : List Record) → Ordered r.tail rs → keep_of (r ∷ rs) ≤ r.tail
unfolding keep_of
keep_tail r rs w = cond_both (is_seal r) r.tail (reopened rs).tail (λ (n : ℕ). n ≤ r.tail) (λ e. omega arith) (λ e. ordered_first r.tail rs w)

keep_before : (r : Record) (rs : List Record) → is_seal r ≡ false → keep_of (r ∷ rs) ≡ (reopened rs).tail
unfolding keep_of
keep_before r rs e = cond-false (is_seal r) _ _ e

reopened_tail : (r : Record) (rs : List Record) → (reopened (r ∷ rs)).tail ≡ r.tail
unfolding reopened
reopened_tail r rs = refl

keep-on :
    (t : ℕ) (ps rs : List Record) → Ordered t ps → length ps ≡ length rs →
    ((i : ℕ) → keep_of ps ≤ i → i < length ps → record_at ps i ≡ record_at rs i) →
    (qs : List Record) → CutLeaves rs qs → (os : List Record) × CutLeaves ps os × ((s : ℕ) → contents (reopened qs) s ≡ contents (reopened os) s)
keep-on t [] [] w e f qs CutLeaves.whole = ([], CutLeaves.whole, λ s. refl)
keep-on t [] (q ∷ rs) w e f qs c = absurd (omega arith)
keep-on t (p ∷ ps) [] w e f qs c = absurd (omega arith)
keep-on t (p ∷ ps) (q ∷ rs) w e f qs c =
    let v = ordered_rest t p ps w in
    let k = keep_tail p ps v.1 in
    let g : p ≡ q = sym (at_here p ps (length ps) refl) ∙ f (length ps) (omega arith) (omega arith) ∙ at_here q rs (length ps) (omega arith) in
    ⊎_elim
    (λ d. (
      p ∷ ps,
      CutLeaves.whole,
      λ s. ap (λ (x : List Record). contents (reopened x) s) d ∙ reopened-agree t (p ∷ ps) (q ∷ rs) w e (λ i h m. f i (omega (arith, reopened_tail p ps)) m) s,
    ))
    (λ d.
    let n : is_seal p ≡ false = ap is_seal g ∙ d.0 in (
      ps,
      CutLeaves.lost n,
      λ s.
          ap (λ (x : List Record). contents (reopened x) s) d.1 ∙
          reopened-agree p.tail ps rs v.1 (omega arith)
          (λ i h m. sym (at_else p ps i m) ∙ f i (omega (arith, keep_before p ps n)) (omega arith) ∙ at_else q rs i (omega arith)) s,
    ))
    (cut_cases c)

pub keep_suffices : KeepSuffices
keep_suffices l rs w e f qs c = keep-on l.tail l.records rs w.ordered e f qs c

-- ---- and that it never grows

keep_append : (l : Log) (f k s : ℕ) (b : List ℕ) (rs : List Record) → Ordered l.tail rs → keep_of rs ≤ keep_of (record { flag = f; kind = k; sector = s; content = b; tail = l.tail } ∷ rs)
unfolding keep_of
keep_append l f k s b [] w = omega arith
keep_append l f k s b (q ∷ rs) w =
    let v = keep_tail q rs (ordered_rest l.tail q rs w).1 in
    let u = ordered_first l.tail (q ∷ rs) w in
    let x = reopened_tail q rs in
    cond_both (eqb k seal_kind) l.tail (reopened (q ∷ rs)).tail (λ (n : ℕ). keep_of (q ∷ rs) ≤ n) (λ e. omega arith) (λ e. omega arith)

whole_keep : (t : ℕ) (rs : List Record) → Ordered t rs → keep_of rs ≤ (reopened rs).tail
unfolding keep_of
whole_keep t [] w = omega arith
whole_keep t (r ∷ rs) w = omega (arith, keep_tail r rs (ordered_rest t r rs w).1, reopened_tail r rs)

-- every tail that a cut may leave is one of those that are kept
pub cut_keep : (t : ℕ) {rs qs : List Record} → Ordered t rs → CutLeaves rs qs → keep_of rs ≤ (reopened qs).tail
cut_keep t {rs} w CutLeaves.whole = whole_keep t rs w
cut_keep t w (CutLeaves.lost {r = r} {rs = rs} e) = omega (arith, keep_before r rs e)

ends_keep : (rs : List Record) → ends_sealed (reopened rs).records ≡ true → keep_of (reopened rs).records ≡ (reopened rs).tail
unfolding ends_sealed keep_of reopened
ends_keep [] e = refl
ends_keep (r ∷ rs) e = cond-true (is_seal r) _ _ e

seal_keep : (t : ℕ) (rs : List Record) → keep_of (record { flag = 2; kind = seal_kind; sector = 0; content = []; tail = t } ∷ rs) ≡ t
unfolding keep_of
seal_keep t rs = refl

keep_sealed : (rs : List Record) → keep_of (sealed (reopened rs)).records ≡ (reopened rs).tail
keep_sealed rs =
    of_sealed (reopened rs) (λ (m : Log). keep_of m.records ≡ (reopened rs).tail)
    (λ e. ends_keep rs e)
    (seal_keep (reopened rs).tail (reopened rs).records)

pub keep_rises : KeepRises
keep_rises = (λ l f k s b w. keep_append l f k s b l.records w.ordered, λ l qs w c. omega (arith, cut_keep l.tail w.ordered c, keep_sealed qs))
