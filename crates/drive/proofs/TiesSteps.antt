-- Each step keeps that the log fits what is seen. Assumes nothing.
use Rattle.std.proofs.Common.{◌≡◌, ℕ, ◌+◌, ◌<◌, ◌≤◌, true, ◌&&◌, eqb, ltb, ◌≢◌, List, [], ◌∷◌, length, sym, refl, ap, ◌∙◌, subst, ⊎_elim, arith}
use mathlib.Core.List.Memᴰ
use mathlib.Core.List.{Memᴰ}
use lib.ListN.{length-replicate}
use Rattle.std.proofs.lemmas.Bool.{cases_eq, cond_both, cond-true, cond-false, eq-eqb, ne_eqb, eqb-true, and_from, and_left, and_right}
use Rattle.drive.specs.Host.{Cmd, Read, Write, Trim, Flush, Way, Seen, noughts, fresh, present, takes, lasting, new_content, with_way, less, ended, left}
use Rattle.laws.specs.Log.{Record, Log, data_kind, seal_kind, live, held, contents, append, copied, moved, reopened, CutLeaves, CutDuring, bare, Ordered, WellFormed}
use Rattle.drive.specs.Ties.{Among, Lasts, Fits, taken}
use Rattle.drive.specs.TiesLaws.{NewFits, RisingFits, AskedFits, ReadFits, WriteFits, TrimFits, TakenFits, TurnedFits, ToldFits, FlushedFits, LastingFits, CutFits, CutDuringFits, CutNeedsSeal, SealFits, OtherFits, CopyFits, MoveFits, CopyAndMoveFits, OtherTailsFit, OpenedFits, LastsLess, TakenLasts, AppendLasts}
use Rattle.drive.proofs.Ways.{of_cons, in_put, in_gone, in_map}
use Rattle.laws.proofs.LogSteps.{append_one, others_none, seal_none, copy_none, move_none, move_same, copied_newest, tails_nothing, length-bare}
use Rattle.laws.proofs.LogCuts.{cut_cases, cut_sealed, cut_after_seal, append_reopens, append_formed, moved_formed, cut_formed, sealed-same, sealed_formed, sealed_cut}

-- ---- a content more

module _ (h : Seen) (s : ℕ) (b : List ℕ) where
  new-count : (new_content s b h).count s ≡ h.count s + 1
  new-count = cond-true (eqb s s) _ _ (eq-eqb s s refl)

  count_rises : (t : ℕ) → h.count t ≤ (new_content s b h).count t
  count_rises t =
      cond_both (eqb t s) (h.count s + 1) (h.count t) (λ n. h.count t ≤ n) (λ e. omega (arith, ap h.count (eqb-true t s e))) (λ e. omega arith)

  -- the sector holds it
  new-here : present (new_content s b h) s ≡ b
  new-here = cond-true (eqb s s && eqb ((new_content s b h).count s) (h.count s + 1)) _ _ (and_from (eqb s s) _ (eq-eqb s s refl) (eq-eqb _ _ new-count))

  -- contents that were there keep their numbers
  old-content : (t k : ℕ) → k ≤ h.count t → (new_content s b h).content t k ≡ h.content t k
  old-content t k m =
      cond-false (eqb t s && eqb k (h.count s + 1)) _ _
      (⊎_elim
      (λ (e : t ≡ s). and_right (eqb t s) _ (ne_eqb k (h.count s + 1) (λ d. let z = ap h.count e in omega arith)))
      (λ (e : t ≡ s → ⊥). and_left (eqb t s) _ (ne_eqb t s e))
      (cases_eq t s))

  -- and other sectors hold what they held
  new-else : (t : ℕ) → t ≢ s → present (new_content s b h) t ≡ present h t
  new-else t n =
      ap ((new_content s b h).content t) (cond-false (eqb t s) (h.count s + 1) (h.count t) (ne_eqb t s n)) ∙ old-content t (h.count t) (omega arith)

  old-among : (t lo : ℕ) (c : List ℕ) → Among h t lo c → Among (new_content s b h) t lo c
  old-among t lo c a = (a.0, a.1, omega (arith, a.2, count_rises t), a.3 ∙ sym (old-content t a.0 a.2))

-- ---- what lasts

-- what lasts is there
lasts_count : (lo : ℕ → ℕ) (h : Seen) (l : Log) → Lasts lo h l → (s : ℕ) → lo s ≤ h.count s
lasts_count lo h l k s = let a = k l.records CutLeaves.whole s in omega (arith, a.1, a.2)

-- the present content is one from lo on
at_present : (lo : ℕ → ℕ) (h : Seen) (l : Log) → Lasts lo h l → (s : ℕ) (b : List ℕ) → b ≡ present h s → Among h s (lo s) b
at_present lo h l k s b e = (h.count s, lasts_count lo h l k s, omega arith, e)

pub lasts_less : LastsLess
lasts_less h l lo lo' le a qs c s = let x = a qs c s in (x.0, omega (arith, x.1, le s), x.2, x.3)

pub append_lasts : AppendLasts
append_lasts h l lo f k s b same g a qs c t =
    ⊎_elim
    (λ e.
    at_present lo h l a t (contents (reopened qs) t) (ap (λ (x : List Record). contents (reopened x) t) e ∙ append_reopens l f k s b t ∙ same t ∙ g.agrees t))
    (λ e. subst (λ (x : List Record). Among h t (lo t) (contents (reopened x) t)) (sym e.1) (a l.records CutLeaves.whole t))
    (cut_cases c)

-- a data record is appended, with a content more
write_agrees : {h : Seen} {l : Log} (f s : ℕ) (b : List ℕ) → Fits h l → (t : ℕ) → contents (append f data_kind s b l) t ≡ present (new_content s b h) t
write_agrees {h} {l} f s b g t =
    let a = append_one l f s b g.formed.within in
    ⊎_elim
    (λ (e : t ≡ s). subst (λ (x : ℕ). contents (append f data_kind s b l) x ≡ present (new_content s b h) x) (sym e) (a.0 ∙ sym (new-here h s b)))
    (λ (e : t ≡ s → ⊥). a.1 t e ∙ g.agrees t ∙ sym (new-else h s b t e))
    (cases_eq t s)

write_lasts : {h : Seen} {l : Log} (lo : ℕ → ℕ) (f s : ℕ) (b : List ℕ) → Fits h l → Lasts lo h l → Lasts lo (new_content s b h) (append f data_kind s b l)
write_lasts {h} {l} lo f s b g a qs c t =
    ⊎_elim
    (λ e. (
      (new_content s b h).count t,
      omega (arith, lasts_count lo h l a t, count_rises h s b t),
      omega arith,
      ap (λ (x : List Record). contents (reopened x) t) e ∙ append_reopens l f data_kind s b t ∙ write_agrees f s b g t,
    ))
    (λ e.
    old-among h s b t (lo t) _
    (subst (λ (x : List Record). Among h t (lo t) (contents (reopened x) t)) (sym e.1) (a l.records CutLeaves.whole t)))
    (cut_cases c)

content_fits : {h : Seen} {l : Log} (f s : ℕ) (b : List ℕ) → Fits h l → Fits (new_content s b h) (append f data_kind s b l)
content_fits {h} {l} f s b g =
    record {
      formed = append_formed l f data_kind s b g.formed;
      agrees = write_agrees f s b g;
      lasts = write_lasts h.low f s b g g.lasts;
      marks = λ w m t. omega (arith, g.marks w m t, count_rises h s b t);
    }

-- ---- sectors of commands

-- a command has a sector less to take
less_fits : {h : Seen} {l : Log} (w : Way) (s : ℕ) (o : ℕ → List ℕ) → Fits h l → Memᴰ w h.ways → Fits (with_way (less w s o) h) l
less_fits {h} w s o g m =
    record {
      formed = g.formed;
      agrees = g.agrees;
      lasts = g.lasts;
      marks = λ v i t. ⊎_elim (λ e. subst (λ (u : Way). u.marks t ≤ h.count t) (sym e) (g.marks w m t)) (λ j. g.marks v j t) (in_put (less w s o) h.ways i);
    }

pub read_fits : ReadFits
unfolding takes
read_fits h l w from many s g m = less_fits w s _ g m

pub write_fits : WriteFits
unfolding takes
write_fits h l w from many s bs g m = less_fits w s _ (content_fits 0 s _ g) m

pub trim_fits : TrimFits
unfolding takes
trim_fits h l w from many s g m = less_fits w s _ (content_fits 0 s noughts g) m

takes_fits : (c : Cmd) (h : Seen) (l : Log) (w : Way) (s : ℕ) → Fits h l → Memᴰ w h.ways → Fits (takes c w s h) (taken c s l)
unfolding takes taken
takes_fits (Read from many) h l w s g m = read_fits h l w from many s g m
takes_fits (Write from many bs) h l w s g m = write_fits h l w from many s bs g m
takes_fits (Trim from many) h l w s g m = trim_fits h l w from many s g m
takes_fits Flush h l w s g m = g

pub taken_fits : TakenFits
taken_fits h l w s g m = takes_fits w.cmd h l w s g m

takes_lasts : (c : Cmd) (h : Seen) (l : Log) (lo : ℕ → ℕ) (w : Way) (s : ℕ) → Fits h l → Lasts lo h l → Lasts lo (takes c w s h) (taken c s l)
unfolding takes taken
takes_lasts (Read from many) h l lo w s g a = a
takes_lasts (Write from many bs) h l lo w s g a = write_lasts lo 0 s _ g a
takes_lasts (Trim from many) h l lo w s g a = write_lasts lo 0 s noughts g a
takes_lasts Flush h l lo w s g a = a

pub taken_lasts : TakenLasts
taken_lasts h l lo w s g a = takes_lasts w.cmd h l lo w s g a

-- ---- what is seen, with the log as it is

pub rising_fits : RisingFits
rising_fits h l g = record { formed = g.formed; agrees = g.agrees; lasts = g.lasts; marks = g.marks }

pub asked_fits : AskedFits
asked_fits h l t c g =
    record {
      formed = g.formed;
      agrees = g.agrees;
      lasts = g.lasts;
      marks = λ w m s. of_cons (λ e. omega (arith, ap (λ (u : Way). u.marks s) e)) (λ i. g.marks w i s) m;
    }

pub turned_fits : TurnedFits
turned_fits h l g =
    record {
      formed = g.formed;
      agrees = g.agrees;
      lasts = g.lasts;
      marks = λ w m s. let f = in_map _ h.ways m in omega (arith, g.marks f.0 f.1 s, ap (λ (u : Way). u.marks s) f.2);
    }

ended_fits : (h : Seen) (l : Log) (w : Way) → Fits h l → Lasts (lasting w.cmd w h) h l → Fits (ended w h) l
ended_fits h l w g a =
    record { formed = g.formed; agrees = g.agrees; lasts = a; marks = λ v m s. g.marks v (in_gone w.tag h.ways m) s }

-- only a flush makes anything lasting
lasts_low : (c : Cmd) (w : Way) (h : Seen) (l : Log) → c ≢ Flush → Lasts h.low h l → Lasts (lasting c w h) h l
unfolding lasting
lasts_low (Read from many) w h l n a = a
lasts_low (Write from many bs) w h l n a = a
lasts_low (Trim from many) w h l n a = a
lasts_low Flush w h l n a = absurd (n refl)

lasts_later : (c : Cmd) (w : Way) (h : Seen) (l : Log) → Lasts w.marks h l → Lasts h.low h l → Lasts (lasting c w h) h l
unfolding lasting
lasts_later (Read from many) w h l m a qs c s = a qs c s
lasts_later (Write from many bs) w h l m a qs c s = a qs c s
lasts_later (Trim from many) w h l m a qs c s = a qs c s
lasts_later Flush w h l m a qs c s =
    cond_both (ltb (h.low s) (w.marks s)) (w.marks s) (h.low s) (λ n. Among h s n (contents (reopened qs) s)) (λ e. m qs c s) (λ e. a qs c s)

pub told_fits : ToldFits
told_fits h l w g n = ended_fits h l w g (lasts_low w.cmd w h l n g.lasts)

pub lasting_fits : LastingFits
lasting_fits h l w g m = ended_fits h l w g (lasts_later w.cmd w h l m g.lasts)

-- ---- what isn't seen

-- a record that changes no content
same_fits : (h : Seen) (l : Log) (f k s : ℕ) (b : List ℕ) → ((t : ℕ) → contents (append f k s b l) t ≡ contents l t) → Fits h l → Fits h (append f k s b l)
same_fits h l f k s b e g =
    record {
      formed = append_formed l f k s b g.formed;
      agrees = λ t. e t ∙ g.agrees t;
      lasts = append_lasts h l h.low f k s b e g g.lasts;
      marks = g.marks;
    }

pub other_fits : OtherFits
other_fits h l f k s b n g = same_fits h l f k s b (others_none l f k s b n) g

pub seal_lasts : (h : Seen) (l : Log) (f s : ℕ) (b : List ℕ) → Fits h l → Lasts h.count h (append f seal_kind s b l)
seal_lasts h l f s b g qs c t = (h.count t, omega arith, omega arith, cut_after_seal l f s b qs c t ∙ g.agrees t)

pub seal_fits : SealFits
seal_fits h l f s b g = (same_fits h l f seal_kind s b (seal_none l f s b) g, seal_lasts h l f s b g)

pub flushed_fits : FlushedFits
flushed_fits h l w f s b g m =
    let a = seal_fits h l f s b g in
    lasting_fits h (append f seal_kind s b l) w a.0 (lasts_less h (append f seal_kind s b l) h.count w.marks (g.marks w m) a.1)

pub copy_fits : CopyFits
copy_fits h l i e k g = same_fits h l 1 _ _ _ (copy_none l i e k) g

-- the tail moves, and what the sectors hold stays
tail_fits : (h : Seen) (l : Log) → l.tail < length l.records → ((s : ℕ) → contents (moved l) s ≡ contents l s) → Fits h l → Fits h (moved l)
tail_fits h l k e g =
    record { formed = moved_formed l k g.formed; agrees = λ s. e s ∙ g.agrees s; lasts = g.lasts; marks = g.marks }

pub move_fits : MoveFits
move_fits h l e k g = tail_fits h l k (move_none l e) g

pub copy_move_fits : CopyAndMoveFits
copy_move_fits h l e g =
    tail_fits h (copied l.tail l) (let a = g.formed.within in omega arith) (λ s. move_same l.tail _ s (copied_newest l l.tail e s)) (copy_fits h l l.tail e (omega arith) g)

-- ---- a cut, and coming up

pub new_fits : NewFits
unfolding held live reopened Ordered
new_fits =
    record {
      formed = record { within = omega arith; ordered = tt };
      agrees = λ s. refl;
      lasts = none;
      marks = λ w m s. absurd (Memᴰ.not-nil m);
    }
  where
    none : Lasts (λ s. 0) fresh (record { records = []; tail = 0 })
    none qs CutLeaves.whole s = (0, omega arith, omega arith, refl)

pub cut_fits : CutFits
cut_fits h l g qs c =
    let pick : ℕ → ℕ = λ s. (g.lasts qs c s).0 in (
      pick,
      λ s. ((g.lasts qs c s).1, (g.lasts qs c s).2),
      record {
        formed = sealed_formed (reopened qs) (cut_formed l.tail g.formed.ordered c);
        agrees = λ s. sealed-same (reopened qs) s ∙ (g.lasts qs c s).3;
        lasts = λ ps d s. (0, omega arith, omega arith, sealed_cut qs ps d s ∙ (g.lasts qs c s).3);
        marks = λ w m s. absurd (Memᴰ.not-nil m);
      },
    )

not_data : (k : ℕ) → eqb k seal_kind ≡ true → k ≢ data_kind
not_data k e d = let z = eqb-true k seal_kind e in omega arith

pub cut_during_fits : CutDuringFits
cut_during_fits h l f k s b g qs (CutDuring.unmade c) = cut_fits h l g qs c
cut_during_fits h l f k s b g qs (CutDuring.made e) = cut_fits h (append f k s b l) (same_fits h l f k s b (others_none l f k s b (not_data k e)) g) qs CutLeaves.whole

-- a write that no seal is behind, and one cut more
unsealed_cut : (pick : ℕ → ℕ) → Fits (left pick (new_content 0 (1 ∷ []) fresh)) (reopened (append 0 data_kind 0 (1 ∷ []) (record { records = []; tail = 0 })).records) → ⊥
unfolding held live reopened
unsealed_cut pick g =
    let a = g.lasts [] (CutLeaves.lost refl) 0 in
    let n : ◌≡◌ {A = List ℕ} noughts (1 ∷ []) = a.3 ∙ sym (g.agrees 0) in
    let k : ◌≡◌ {A = ℕ} 4096 1 = sym (length-replicate {A = ℕ} 4096 0) ∙ ap length n in
    omega arith

pub cut_needs_seal : CutNeedsSeal
cut_needs_seal = (new_content 0 (1 ∷ []) fresh, append 0 data_kind 0 (1 ∷ []) (record { records = []; tail = 0 }), content_fits 0 0 (1 ∷ []) new_fits, unsealed_cut)

pub opened_fits : OpenedFits
opened_fits l qs n w c =
    record {
      formed = sealed_formed (reopened qs) (cut_formed l.tail w.ordered c);
      agrees = λ s. sealed-same (reopened qs) s;
      lasts = λ ps d s. (0, omega arith, omega arith, sealed_cut qs ps d s);
      marks = λ v m s. absurd (Memᴰ.not-nil m);
    }

-- ---- other tails

tails-formed :
    (r : Record) (rs qs : List Record) (t : ℕ) → length qs ≡ length rs → Ordered r.tail qs → WellFormed (record { records = r ∷ rs; tail = t }) →
    WellFormed (record { records = r ∷ qs; tail = t })
unfolding Ordered
tails-formed r rs qs t n w f =
    let a = f.within in
    let b = f.ordered.1 in
    record { within = omega arith; ordered = (f.ordered.0, omega arith, w) }

reopened-same :
    (r : Record) (rs qs : List Record) (s : ℕ) → held (live r.tail (r ∷ qs)) s ≡ held (live r.tail (r ∷ rs)) s → contents (reopened (r ∷ qs)) s ≡ contents (reopened (r ∷ rs)) s
unfolding reopened
reopened-same r rs qs s e = e

pub other_tails_fit : OtherTailsFit
other_tails_fit h r rs qs t e p w g =
    let n : length qs ≡ length rs = sym (length-bare qs) ∙ ap length (sym p) ∙ length-bare rs in
    let same : (u : ℕ) (s : ℕ) → held (live u (r ∷ qs)) s ≡ held (live u (r ∷ rs)) s = λ u s. sym (tails_nothing u (r ∷ rs) (r ∷ qs) (ap (λ x. bare r ∷ x) p) s) in
    record {
      formed = tails-formed r rs qs t n w g.formed;
      agrees = λ s. same t s ∙ g.agrees s;
      lasts = λ ps d s. let a = g.lasts (r ∷ rs) CutLeaves.whole s in
          (a.0, a.1, a.2, ap (λ (x : List Record). contents (reopened x) s) (cut_sealed e d) ∙ reopened-same r rs qs s (same r.tail s) ∙ a.3);
      marks = g.marks;
    }
