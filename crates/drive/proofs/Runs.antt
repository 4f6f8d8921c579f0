-- What every run keeps, step by step. Assumes nothing.
use Rattle.std.proofs.Common.{◌≡◌, ℕ, ◌+◌, ◌<◌, ◌≤◌, Bool, true, false, cond, ◌&&◌, eqb, ltb, leb, ◌⊎◌, List, ◌∷◌, sym, refl, ap, ◌∙◌, subst, inl, inr, ⊎_elim, arith}
use mathlib.Core.List.Memᴰ
use mathlib.Core.List.{Memᴰ}
use Rattle.std.proofs.lemmas.Bool.{cond_both, cases_Bool, eqb-true, eqb-false, and_parts, or_parts, cases_eq}
use Rattle.drive.specs.Bits.{some'}
use Rattle.drive.specs.Host.{Cmd, Read, Write, Trim, Flush, Event, Asked, Way, Seen, Run, noughts, sectors_of, without, takes, lasting, new_content, with_way, less, tag_taken, why, wrong}
use Rattle.drive.specs.Promise.{Brought, NothingMadeUp, LowRises, OneEach}
use Rattle.drive.proofs.Ways.{of_cons, in_put, in_gone, in_map, in_without, in_span, Single, single_none, single_more, single_put, single_gone, single_map, free_tag, single_same}

-- ---- what lasts, and what a flush has to make lasting, is a content that was there

record Steady (h : Seen) : Type 0 where
  low : (s : ℕ) → h.low s ≤ h.count s
  marks : (w : Way) → Memᴰ w h.ways → (s : ℕ) → w.marks s ≤ h.count s

-- a command's sector is taken: contents are no fewer, and what it has to make lasting stays
with_way_steady : {h : Seen} (w : Way) (s : ℕ) (g : ℕ → List ℕ) → Steady h → Memᴰ w h.ways → Steady (with_way (less w s g) h)
with_way_steady {h} w s g k m =
    record {
      low = k.low;
      marks = λ v i t. ⊎_elim (λ e. subst (λ (u : Way). u.marks t ≤ h.count t) (sym e) (k.marks w m t)) (λ j. k.marks v j t) (in_put (less w s g) h.ways i);
    }

count_rises : (h : Seen) (s : ℕ) (b : List ℕ) (t : ℕ) → h.count t ≤ (new_content s b h).count t
count_rises h s b t =
    cond_both (eqb t s) (h.count s + 1) (h.count t) (λ n. h.count t ≤ n) (λ e. omega (arith, ap h.count (eqb-true t s e))) (λ e. omega arith)

new_content_steady : {h : Seen} (s : ℕ) (b : List ℕ) → Steady h → Steady (new_content s b h)
new_content_steady {h} s b k =
    record {
      low = λ t. omega (arith, k.low t, count_rises h s b t);
      marks = λ v i t. omega (arith, k.marks v i t, count_rises h s b t);
    }

takes_steady : (c : Cmd) (w : Way) (s : ℕ) (h : Seen) → Steady h → Memᴰ w h.ways → Steady (takes c w s h)
unfolding takes
takes_steady (Read from many) w s h k m = with_way_steady w s _ k m
takes_steady (Write from many bs) w s h k m = with_way_steady w s _ (new_content_steady s _ k) m
takes_steady (Trim from many) w s h k m = with_way_steady w s _ (new_content_steady s _ k) m
takes_steady Flush w s h k m = k

lasting_low : (c : Cmd) (w : Way) (h : Seen) (s : ℕ) → h.low s ≤ h.count s → w.marks s ≤ h.count s → lasting c w h s ≤ h.count s
unfolding lasting
lasting_low (Read from many) w h s k l = k
lasting_low (Write from many bs) w h s k l = k
lasting_low (Trim from many) w h s k l = k
lasting_low Flush w h s k l =
    cond_both (ltb (h.low s) (w.marks s)) (w.marks s) (h.low s) (λ n. n ≤ h.count s) (λ e. l) (λ e. k)

steady : {can : Cmd → Bool} {total : ℕ} {es : List Event} {h : Seen} → Run can total es h → Steady h
steady Run.new = record { low = λ s. omega arith; marks = λ w m s. absurd (Memᴰ.not-nil m) }
steady (Run.ups r) = let k = steady r in record { low = k.low; marks = k.marks }
steady (Run.asks {h = h} t c r y b) =
    let k = steady r in
    record { low = k.low; marks = λ w m s. of_cons (λ e. omega (arith, ap (λ (u : Way). u.marks s) e)) (λ i. k.marks w i s) m }
steady (Run.refuses t c r y) = steady r
steady (Run.not_built t c r y b) = steady r
steady (Run.worn t c r y b d l) = steady r
steady (Run.does {h = h} w s r m i) = takes_steady w.cmd w s h (steady r) m
steady (Run.turns {h = h} r y) =
    let k = steady r in
    record {
      low = k.low;
      marks = λ w m s. let f = in_map _ h.ways m in omega (arith, k.marks f.0 f.1 s, ap (λ (u : Way). u.marks s) f.2);
    }
steady (Run.tells {h = h} w r m e) =
    let k = steady r in
    record { low = λ s. lasting_low w.cmd w h s (k.low s) (k.marks w m s); marks = λ v i s. k.marks v (in_gone w.tag h.ways i) s }
steady (Run.cuts pick r p) = record { low = λ s. omega arith; marks = λ w m s. absurd (Memᴰ.not-nil m) }

pub low_rises : LowRises
low_rises total es h r = let k = steady r in (k.low, k.marks)

-- ---- a tag names one command

takes_single : (c : Cmd) (w : Way) (s : ℕ) (h : Seen) → Single h.ways → Single (takes c w s h).ways
unfolding takes
takes_single (Read from many) w s h k = single_put _ h.ways k
takes_single (Write from many bs) w s h k = single_put _ h.ways k
takes_single (Trim from many) w s h k = single_put _ h.ways k
takes_single Flush w s h k = k

-- a command that isn't turned away has a tag of its own
untaken : (size : ℕ) (h : Seen) (t : ℕ) (c : Cmd) → why size h t c ≡ 0 → tag_taken t h ≡ false
untaken size h t c e =
    ⊎_elim
    (λ (y : tag_taken t h ≡ true). let z : ◌≡◌ {A = ℕ} 1 0 = sym (ap (λ (b : Bool). cond b 1 (wrong size c)) y) ∙ e in absurd (omega arith))
    (λ (y : tag_taken t h ≡ false). y)
    (cases_Bool (tag_taken t h))

single : {can : Cmd → Bool} {total : ℕ} {es : List Event} {h : Seen} → Run can total es h → Single h.ways
single Run.new = single_none
single (Run.ups r) = single r
single (Run.asks {h = h} t c r y b) =
    let f = or_parts (leb 8 t) (some' (λ (w : Way). eqb t w.tag) h.ways) (untaken _ h t c y) in
    single_more _ h.ways (free_tag t h.ways f.1) (single r)
single (Run.refuses t c r y) = single r
single (Run.not_built t c r y b) = single r
single (Run.worn t c r y b d l) = single r
single (Run.does {h = h} w s r m i) = takes_single w.cmd w s h (single r)
single (Run.turns {h = h} r y) = single_map _ (λ w. refl) h.ways (single r)
single (Run.tells {h = h} w r m e) = single_gone w.tag h.ways (single r)
single (Run.cuts pick r p) = single_none

pub one_each : OneEach
one_each total es h r v w i j e = single_same h.ways (single r) i j e

-- ---- every content is noughts or was brought by a write

abbrev From : ℕ → List ℕ → List Event → Type 0
From s b es = (b ≡ noughts) ⊎ Brought s b es

-- a write under way was asked, and what it has still to take are sectors of its own
unfoldable Genuine : Cmd → List ℕ → List Event → Type 0
Genuine (Read from many) ss es = Unit {0}
Genuine (Write from many bs) ss es =
    ((t : ℕ) × Memᴰ (Asked t (Write from many bs)) es) × ((s : ℕ) → Memᴰ s ss → (from ≤ s) × (s < from + many))
Genuine (Trim from many) ss es = Unit {0}
Genuine Flush ss es = Unit {0}

from_later : {s : ℕ} {b : List ℕ} {es : List Event} (x : Event) → From s b es → From s b (x ∷ es)
from_later x (inl e) = inl e
from_later x (inr r) = inr (r.0, r.1, r.2, r.3, Memᴰ.tail r.4, r.5, r.6, r.7)

genuine_later : (c : Cmd) (ss : List ℕ) (es : List Event) (x : Event) → Genuine c ss es → Genuine c ss (x ∷ es)
unfolding Genuine
genuine_later (Read from many) ss es x g = tt
genuine_later (Write from many bs) ss es x g = ((g.0.0, Memᴰ.tail g.0.1), g.1)
genuine_later (Trim from many) ss es x g = tt
genuine_later Flush ss es x g = tt

genuine_less : (c : Cmd) (s : ℕ) (ss : List ℕ) (es : List Event) → Genuine c ss es → Genuine c (without s ss) es
unfolding Genuine
genuine_less (Read from many) s ss es g = tt
genuine_less (Write from many bs) s ss es g = (g.0, λ t m. g.1 t (in_without s ss m))
genuine_less (Trim from many) s ss es g = tt
genuine_less Flush s ss es g = tt

genuine_begun : (t : ℕ) (c : Cmd) (es : List Event) → Genuine c (sectors_of c) (Asked t c ∷ es)
unfolding Genuine sectors_of
genuine_begun t (Read from many) es = tt
genuine_begun t (Write from many bs) es = ((t, Memᴰ.head refl), λ s m. in_span from many m)
genuine_begun t (Trim from many) es = tt
genuine_begun t Flush es = tt

record Sourced (es : List Event) (h : Seen) : Type 0 where
  held : (s k : ℕ) → k ≤ h.count s → From s (h.content s k) es
  asked : (w : Way) → Memᴰ w h.ways → Genuine w.cmd w.left es

sourced_later : {es : List Event} {h : Seen} (x : Event) → Sourced es h → Sourced (x ∷ es) h
sourced_later {es} x k = record { held = λ s n l. from_later x (k.held s n l); asked = λ w m. genuine_later w.cmd w.left es x (k.asked w m) }

with_way_sourced : {es : List Event} {h : Seen} (w : Way) (s : ℕ) (g : ℕ → List ℕ) → Sourced es h → Memᴰ w h.ways → Sourced es (with_way (less w s g) h)
with_way_sourced {es} {h} w s g k m =
    record {
      held = k.held;
      asked =
          λ v i.
          ⊎_elim
          (λ e. subst (λ (u : Way). Genuine u.cmd u.left es) (sym e) (genuine_less w.cmd s w.left es (k.asked w m)))
          (λ j. k.asked v j)
          (in_put (less w s g) h.ways i);
    }

new_content_sourced : {es : List Event} {h : Seen} (s : ℕ) (b : List ℕ) → From s b es → Sourced es h → Sourced es (new_content s b h)
new_content_sourced {es} {h} s b f k =
    record {
      held =
          λ t n l.
          cond_both (eqb t s && eqb n (h.count s + 1)) b (h.content t n) (λ x. From t x es)
          (λ e. let p = and_parts (eqb t s) (eqb n (h.count s + 1)) e in subst (λ u. From u b es) (sym (eqb-true t s p.0)) f)
          (λ e. k.held t n (below t n l e));
      asked = k.asked;
    }
  where
    below : (t n : ℕ) → n ≤ cond (eqb t s) (h.count s + 1) (h.count t) → (eqb t s && eqb n (h.count s + 1)) ≡ false → n ≤ h.count t
    below t n l e =
        ⊎_elim
        (λ (y : eqb t s ≡ true).
        let u = ap h.count (eqb-true t s y) in
        let m : n ≤ h.count s + 1 = subst (λ b. n ≤ cond b (h.count s + 1) (h.count t)) y l in
        let d : eqb n (h.count s + 1) ≡ false = subst (λ b. (b && eqb n (h.count s + 1)) ≡ false) y e in
        ⊎_elim
        (λ (z : n ≡ h.count s + 1). absurd (eqb-false n (h.count s + 1) d z))
        (λ (z : n ≡ h.count s + 1 → ⊥). omega arith)
        (cases_eq n (h.count s + 1)))
        (λ (y : eqb t s ≡ false). subst (λ b. n ≤ cond b (h.count s + 1) (h.count t)) y l)
        (cases_Bool (eqb t s))

takes_sourced : (c : Cmd) (w : Way) (s : ℕ) (h : Seen) {es : List Event} → Sourced es h → Memᴰ w h.ways → Genuine c w.left es → Memᴰ s w.left → Sourced es (takes c w s h)
unfolding takes Genuine
takes_sourced (Read from many) w s h k m g i = with_way_sourced w s _ k m
takes_sourced (Write from many bs) w s h k m g i =
    let r = g.1 s i in
    with_way_sourced w s _ (new_content_sourced s _ (inr (g.0.0, from, many, bs, g.0.1, r.0, r.1, refl)) k) m
takes_sourced (Trim from many) w s h k m g i = with_way_sourced w s _ (new_content_sourced s _ (inl refl) k) m
takes_sourced Flush w s h k m g i = k

sourced : {can : Cmd → Bool} {total : ℕ} {es : List Event} {h : Seen} → Run can total es h → Sourced es h
sourced Run.new = record { held = λ s k l. inl refl; asked = λ w m. absurd (Memᴰ.not-nil m) }
sourced (Run.ups r) = let k = sourced_later _ (sourced r) in record { held = k.held; asked = k.asked }
sourced (Run.asks {es = es} t c r y b) =
    let k = sourced_later (Asked t c) (sourced r) in
    record {
      held = k.held;
      asked =
          λ w m.
          of_cons (λ e. subst (λ (u : Way). Genuine u.cmd u.left (Asked t c ∷ es)) (sym e) (genuine_begun t c es)) (λ i. k.asked w i) m;
    }
sourced (Run.refuses t c r y) = sourced_later _ (sourced r)
sourced (Run.not_built t c r y b) = sourced_later _ (sourced r)
sourced (Run.worn t c r y b d l) = sourced_later _ (sourced r)
sourced (Run.does {h = h} w s r m i) = let k = sourced r in takes_sourced w.cmd w s h k m (k.asked w m) i
sourced (Run.turns {es = es} {h = h} r y) =
    let k = sourced_later _ (sourced r) in
    record {
      held = k.held;
      asked =
          λ w m.
          let f = in_map _ h.ways m in
          subst (λ (u : Way). Genuine u.cmd u.left (Event.Turned ∷ es)) (sym f.2) (k.asked f.0 f.1);
    }
sourced (Run.tells {h = h} w r m e) =
    let k = sourced_later _ (sourced r) in
    record { held = k.held; asked = λ v i. k.asked v (in_gone w.tag h.ways i) }
sourced (Run.cuts pick r p) =
    let k = sourced_later _ (sourced r) in
    record { held = λ s n l. k.held s (pick s) (p s).1; asked = λ w m. absurd (Memᴰ.not-nil m) }

pub nothing_made_up : NothingMadeUp
nothing_made_up total es h r s k l = (sourced r).held s k l
