-- What each step of the log changes of what the sectors hold. Assumes nothing.
use Rattle.std.proofs.Common.{◌≡◌, ℕ, suc, ◌+◌, ◌-◌, ◌<◌, ◌≤◌, true, false, cond, eqb, ltb, leb, ◌≢◌, List, [], ◌∷◌, map, length, sym, refl, ap, ◌∙◌, subst, inl, inr, ⊎_elim, arith}
use Rattle.std.proofs.lemmas.Bool.{cases_Bool, cases_lt, cond-true, cond-false, le-leb, lt-leb, lt-ltb, le-ltb, eq-eqb, ne_eqb, eqb-true, and_parts, and_from, and_left, both_ways}
use Rattle.laws.specs.Log.{noughts, contents, Record, Log, data_kind, seal_kind, is_data, is_seal, holds, live, held, unsealed, record_at, place_in, is_newest, copied, bare}
use Rattle.laws.specs.LogLaws.{AppendChangesOne, SealChangesNone, OthersChangeNone, CopyChangesNone, MoveChangesNone, CopyAndMoveChangesNone, SealsSayNothing, PlaceSays, TailsSayNothing}

-- ---- the records that count

pub live_more : (t : ℕ) (r : Record) (rs : List Record) → t ≤ length rs → live t (r ∷ rs) ≡ r ∷ live t rs
unfolding live
live_more t r rs h = cond-true (leb t (length rs)) _ _ (le-leb t (length rs) h)

pub live_none : (t : ℕ) (rs : List Record) → length rs ≤ t → live t rs ≡ []
unfolding live
live_none t [] h = refl
live_none t (r ∷ rs) h = cond-false (leb t (length rs)) _ _ (lt-leb t (length rs) (omega arith))

-- ---- what one record more says

pub held_here : (r : Record) (rs : List Record) (s : ℕ) → holds r s ≡ true → held (r ∷ rs) s ≡ r.content
unfolding held
held_here r rs s e = cond-true (holds r s) _ _ e

pub held_else : (r : Record) (rs : List Record) (s : ℕ) → holds r s ≡ false → held (r ∷ rs) s ≡ held rs s
unfolding held
held_else r rs s e = cond-false (holds r s) _ _ e

pub held_none : (s : ℕ) → held [] s ≡ noughts
unfolding held
held_none s = refl

-- of the records from t on, where the newest says nothing of the sector
pub silent : (t : ℕ) (r : Record) (rs : List Record) (s : ℕ) → holds r s ≡ false → held (live t (r ∷ rs)) s ≡ held (live t rs) s
silent t r rs s e =
    ⊎_elim
    (λ (h : length rs < t). ap (λ (x : List Record). held x s) (live_none t (r ∷ rs) (omega arith) ∙ sym (live_none t rs (omega arith))))
    (λ (h : t ≤ length rs). ap (λ (x : List Record). held x s) (live_more t r rs h) ∙ held_else r (live t rs) s e)
    (cases_lt (length rs) t)

-- and where it says what the sector holds
pub speaks : (t : ℕ) (r : Record) (rs : List Record) (s : ℕ) → t ≤ length rs → holds r s ≡ true → held (live t (r ∷ rs)) s ≡ r.content
speaks t r rs s h e = ap (λ (x : List Record). held x s) (live_more t r rs h) ∙ held_here r (live t rs) s e

pub append_one : AppendChangesOne
append_one l f s b h = (
  speaks l.tail _ l.records s h (eq-eqb s s refl),
  λ t n. silent l.tail _ l.records t (ne_eqb s t (λ e. n (sym e))),
)

pub others_none : OthersChangeNone
others_none l f k s b n t = silent l.tail _ l.records t (and_left (eqb k data_kind) (eqb s t) (ne_eqb k data_kind n))

pub seal_none : SealChangesNone
seal_none l f s b t = silent l.tail _ l.records t refl

-- ---- seals

held_after : (r : Record) (ps qs : List Record) (s : ℕ) → held ps s ≡ held qs s → held (r ∷ ps) s ≡ held (r ∷ qs) s
unfolding held
held_after r ps qs s e = ap (λ (x : List ℕ). cond (holds r s) r.content x) e

-- a seal says what no sector holds
seal_silent : (r : Record) (s : ℕ) → is_seal r ≡ true → holds r s ≡ false
seal_silent r s e =
    and_left (is_data r) (eqb r.sector s) (ne_eqb r.kind data_kind (λ d. let z = eqb-true r.kind seal_kind e in absurd (omega arith)))

unsealed-held : (rs : List Record) (s : ℕ) → held (unsealed rs) s ≡ held rs s
unfolding unsealed
unsealed-held [] s = refl
unsealed-held (r ∷ rs) s =
    ⊎_elim
    (λ (e : is_seal r ≡ true).
    ap (λ (x : List Record). held x s) (cond-true (is_seal r) (unsealed rs) (r ∷ unsealed rs) e) ∙ unsealed-held rs s ∙ sym (held_else r rs s (seal_silent r s e)))
    (λ (e : is_seal r ≡ false).
    ap (λ (x : List Record). held x s) (cond-false (is_seal r) (unsealed rs) (r ∷ unsealed rs) e) ∙ held_after r (unsealed rs) rs s (unsealed-held rs s))
    (cases_Bool (is_seal r))

pub seals_nothing : SealsSayNothing
seals_nothing l s = unsealed-held (live l.tail l.records) s

-- ---- places

pub place_here : (r : Record) (rs : List Record) (s : ℕ) → holds r s ≡ true → place_in (r ∷ rs) s ≡ suc (length rs)
unfolding place_in
place_here r rs s e = cond-true (holds r s) _ _ e

pub place_else : (r : Record) (rs : List Record) (s : ℕ) → holds r s ≡ false → place_in (r ∷ rs) s ≡ place_in rs s
unfolding place_in
place_else r rs s e = cond-false (holds r s) _ _ e

pub place_within : (rs : List Record) (s : ℕ) → place_in rs s ≤ length rs
unfolding place_in
place_within [] s = omega arith
place_within (r ∷ rs) s =
    ⊎_elim
    (λ (e : holds r s ≡ true). omega (arith, place_here r rs s e))
    (λ (e : holds r s ≡ false). omega (arith, place_else r rs s e, place_within rs s))
    (cases_Bool (holds r s))

pub at_here : (r : Record) (rs : List Record) (i : ℕ) → i ≡ length rs → record_at (r ∷ rs) i ≡ r
unfolding record_at
at_here r rs i e = cond-true (eqb i (length rs)) _ _ (eq-eqb i (length rs) e)

pub at_else : (r : Record) (rs : List Record) (i : ℕ) → i < length rs → record_at (r ∷ rs) i ≡ record_at rs i
unfolding record_at
at_else r rs i h = cond-false (eqb i (length rs)) _ _ (ne_eqb i (length rs) (λ e. omega arith))

-- the record at a sector's place says what the sector holds
pub place_holds : (rs : List Record) (s i : ℕ) → place_in rs s ≡ suc i → holds (record_at rs i) s ≡ true
unfolding place_in
place_holds [] s i e = absurd (omega arith)
place_holds (r ∷ rs) s i e =
    ⊎_elim
    (λ (h : holds r s ≡ true). ap (λ (q : Record). holds q s) (at_here r rs i (omega (arith, place_here r rs s h))) ∙ h)
    (λ (h : holds r s ≡ false).
    let p = sym (place_else r rs s h) ∙ e in
    ap (λ (q : Record). holds q s) (at_else r rs i (omega (arith, place_within rs s))) ∙ place_holds rs s i p)
    (cases_Bool (holds r s))

-- a place that isn't behind the tail has the content
pub place_content : (t : ℕ) (rs : List Record) (s i : ℕ) → place_in rs s ≡ suc i → t ≤ i → held (live t rs) s ≡ (record_at rs i).content
unfolding place_in
place_content t [] s i e h = absurd (omega arith)
place_content t (r ∷ rs) s i e h =
    ⊎_elim
    (λ (k : holds r s ≡ true).
    let p = place_here r rs s k in
    speaks t r rs s (omega arith) k ∙ sym (ap (λ (q : Record). q.content) (at_here r rs i (omega arith))))
    (λ (k : holds r s ≡ false).
    let p = sym (place_else r rs s k) ∙ e in
    silent t r rs s k ∙ place_content t rs s i p h ∙ sym (ap (λ (q : Record). q.content) (at_else r rs i (omega (arith, place_within rs s)))))
    (cases_Bool (holds r s))

-- one behind it has none that counts
pub place_behind : (t : ℕ) (rs : List Record) (s : ℕ) → place_in rs s ≤ t → held (live t rs) s ≡ noughts
unfolding live
place_behind t [] s h = held_none s
place_behind t (r ∷ rs) s h =
    ⊎_elim
    (λ (k : holds r s ≡ true). ap (λ (x : List Record). held x s) (live_none t (r ∷ rs) (omega (arith, place_here r rs s k))) ∙ held_none s)
    (λ (k : holds r s ≡ false). silent t r rs s k ∙ place_behind t rs s (omega (arith, place_else r rs s k)))
    (cases_Bool (holds r s))

pub place_says : PlaceSays
place_says l s =
    ⊎_elim
    (λ (h : l.tail < place_in l.records s).
    place_content l.tail l.records s (place_in l.records s - 1) (omega arith) (omega arith) ∙ sym (cond-true (ltb l.tail (place_in l.records s)) _ _ (lt-ltb _ _ h)))
    (λ (h : place_in l.records s ≤ l.tail).
    place_behind l.tail l.records s h ∙ sym (cond-false (ltb l.tail (place_in l.records s)) _ _ (le-ltb _ _ h)))
    (cases_lt l.tail (place_in l.records s))

-- ---- the tail

-- a sector whose place isn't at the tail holds the same when the tail moves on
pub move_same : (t : ℕ) (rs : List Record) (s : ℕ) → place_in rs s ≢ suc t → held (live (t + 1) rs) s ≡ held (live t rs) s
move_same t rs s n =
    ⊎_elim
    (λ (h : place_in rs s ≤ t). place_behind (t + 1) rs s (omega arith) ∙ sym (place_behind t rs s h))
    (λ (h : t < place_in rs s).
    let p : place_in rs s ≡ suc (place_in rs s - 1) = omega arith in
    let m : t + 1 ≤ place_in rs s - 1 = omega arith in
    place_content (t + 1) rs s (place_in rs s - 1) p m ∙ sym (place_content t rs s (place_in rs s - 1) p (omega arith)))
    (⊎_elim (λ (h : place_in rs s < suc t). inl (omega arith)) (λ (h : suc t ≤ place_in rs s). inr (omega arith)) (cases_lt (place_in rs s) (suc t)))

-- the newest record of a sector, by the sector's place
pub newest_place : (rs : List Record) (i : ℕ) → is_newest rs i ≡ true → place_in rs (record_at rs i).sector ≡ suc i
newest_place rs i e = eqb-true _ _ (and_parts (is_data (record_at rs i)) _ e).1

place_newest : (rs : List Record) (s i : ℕ) → place_in rs s ≡ suc i → (s ≡ (record_at rs i).sector) × (is_newest rs i ≡ true)
place_newest rs s i e =
    let h = and_parts (is_data (record_at rs i)) (eqb (record_at rs i).sector s) (place_holds rs s i e) in
    let p = eqb-true (record_at rs i).sector s h.1 in
    (sym p, and_from (is_data (record_at rs i)) _ h.0 (eq-eqb _ _ (ap (place_in rs) p ∙ e)))

pub move_none : MoveChangesNone
move_none l e s = move_same l.tail l.records s (λ p. both_ways _ e (place_newest l.records s l.tail p).1)

-- ---- copies

newest_holds : (rs : List Record) (i s : ℕ) → is_newest rs i ≡ true → holds (record_at rs i) s ≡ true → place_in rs s ≡ suc i
newest_holds rs i s e h = subst (λ (x : ℕ). place_in rs x ≡ suc i) (eqb-true (record_at rs i).sector s (and_parts (is_data (record_at rs i)) _ h).1) (newest_place rs i e)

pub copy_none : CopyChangesNone
copy_none l i e h s =
    ⊎_elim
    (λ (k : holds (record_at l.records i) s ≡ true).
    let p = newest_holds l.records i s e k in
    speaks l.tail _ l.records s (omega (arith, place_within l.records s)) k ∙ sym (place_content l.tail l.records s i p h))
    (λ (k : holds (record_at l.records i) s ≡ false). silent l.tail _ l.records s k)
    (cases_Bool (holds (record_at l.records i) s))

-- a record that was copied isn't the newest of its sector: another that says the same stands before it
past_copy : (r : Record) (rs : List Record) (i s : ℕ) → is_newest rs i ≡ true → holds r s ≡ holds (record_at rs i) s → place_in (r ∷ rs) s ≢ suc i
past_copy r rs i s e d p =
    let b = place_within rs (record_at rs i).sector in
    let c = newest_place rs i e in
    ⊎_elim
    (λ (k : holds r s ≡ true). omega (arith, place_here r rs s k))
    (λ (k : holds r s ≡ false). both_ways (holds (record_at rs i) s) (sym d ∙ k) (place_holds rs s i (sym (place_else r rs s k) ∙ p)))
    (cases_Bool (holds r s))

pub copied_newest : (l : Log) (i : ℕ) → is_newest l.records i ≡ true → (s : ℕ) → place_in (copied i l).records s ≢ suc i
copied_newest l i e s =
    let q = record_at l.records i in
    past_copy (record { flag = 1; kind = q.kind; sector = q.sector; content = q.content; tail = l.tail }) l.records i s e refl

pub copy_move_none : CopyAndMoveChangesNone
copy_move_none l e s = move_same l.tail _ s (copied_newest l l.tail e s) ∙ copy_none l l.tail e (omega arith) s

-- ---- the tails that records carry

pub length-bare : (rs : List Record) → length (map bare rs) ≡ length rs
length-bare [] = refl
length-bare (r ∷ rs) = ap suc (length-bare rs)

bare-held : (t : ℕ) (rs : List Record) (s : ℕ) → held (live t (map bare rs)) s ≡ held (live t rs) s
bare-held t [] s = refl
bare-held t (r ∷ rs) s =
    ⊎_elim
    (λ (h : holds r s ≡ true).
    ⊎_elim
    (λ (k : length rs < t).
    ap (λ (x : List Record). held x s) (live_none t (map bare (r ∷ rs)) (omega (arith, length-bare rs)) ∙ sym (live_none t (r ∷ rs) (omega arith))))
    (λ (k : t ≤ length rs). speaks t (bare r) (map bare rs) s (omega (arith, length-bare rs)) h ∙ sym (speaks t r rs s k h))
    (cases_lt (length rs) t))
    (λ (h : holds r s ≡ false). silent t (bare r) (map bare rs) s h ∙ bare-held t rs s ∙ sym (silent t r rs s h))
    (cases_Bool (holds r s))

pub tails_nothing : TailsSayNothing
tails_nothing t rs qs e s = sym (bare-held t rs s) ∙ ap (λ (x : List Record). held (live t x) s) e ∙ bare-held t qs s

-- a sector that has no record from the tail on holds noughts
pub place_none : (l : Log) (s : ℕ) → place_in l.records s ≤ l.tail → contents l s ≡ noughts
place_none l s h = place_behind l.tail l.records s h
