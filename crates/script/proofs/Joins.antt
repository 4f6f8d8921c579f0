-- Lines put together again. Assumes nothing.
use Rattle.std.proofs.Common.{◌≡◌, ℕ, ◌+◌, ◌-◌, ◌<◌, ◌≤◌, List, [], ◌∷◌, ◌++◌, length, get_or, take, drop, refl, sym, ap, ◌∙◌, ⊎_elim, ◌≢◌, arith, length-append, length-drop}
use Rattle.std.specs.List.{between}
use Rattle.std.proofs.lemmas.List.{get_or-drop, get_or_append_left, get_or-append_right, take_all, take-append-drop, drop-drop, drop_more, drop_all}
use Rattle.std.proofs.lemmas.Bool.{cases_lt, lt-ltb, le-ltb}
use Rattle.script.specs.Lines.{LineAt, LinesJoin}
use Rattle.script.specs.Readings.{SplitBefore}

-- a list from a place on, split at a later one
split : (s : List ℕ) (a b : ℕ) → a ≤ b → drop a s ≡ between a b s ++ drop b s
split s a b h =
    let e : a + (b - a) ≡ b = omega arith in
    sym (take-append-drop (b - a) (drop a s)) ∙ ap (λ l. between a b s ++ l) (drop-drop (b - a) a s ∙ ap (λ n. drop n s) e)

pub lines_join : LinesJoin
lines_join s at l h =
    split s at l.end h.ordered
    ∙ ap (λ r. between at l.end s ++ r) (⊎_elim
    (λ (p : l.end < length s).
    let q = h.fed p in
    rw (lt-ltb l.end (length s) p, q.1) (drop_more s l.end 0 p ∙ ap (λ c. c ∷ drop (l.end + 1) s) q.0))
    (λ (p : length s ≤ l.end).
    let q : l.end ≡ length s = omega (arith, h.within) in
    rw (le-ltb l.end (length s) p) (drop_all l.end s p ∙ sym (drop_all l.next s (omega (arith, h.last q)))))
    (cases_lt l.end (length s)))

-- what stands in front of the first line feed from a place on is the line there
pub line_at : (s front rest : List ℕ) (at next : ℕ) → at < length s → SplitBefore (λ b. b ≢ 10) (λ b. b ≡ 10) (take (length s - at) (drop at s)) front rest
    → (at + length front < length s → next ≡ at + length front + 1) → (length s ≤ at + length front → next ≡ at + length front)
    → LineAt s at (record { start = at; end = at + length front; next = next })
line_at s front rest at next h b one none =
    let whole : drop at s ≡ front ++ rest = sym (take_all (length s - at) (drop at s) (omega (arith, length-drop at s))) ∙ b.whole in
    let n : length s ≡ at + length front + length rest = omega (arith, ap length whole, length-drop at s, length-append front rest) in
    let read : (k : ℕ) → get_or s (at + k) 0 ≡ get_or (front ++ rest) k 0 = λ k. sym (get_or-drop at s k 0) ∙ ap (λ l. get_or l k 0) whole in
    record {
      starts = refl;
      ordered = omega arith;
      within = omega arith;
      bare =
          λ k lo hi e.
          let m : at + (k - at) ≡ k = omega arith in
          b.runs (k - at) 0 (omega arith) (sym (get_or_append_left front rest 0 (k - at) (omega arith)) ∙ sym (read (k - at)) ∙ ap (λ i. get_or s i 0) m ∙ e);
      fed =
          λ p.
          let z : length front - length front ≡ 0 = omega arith in (
            ⊎_elim (λ (e : rest ≡ []). absurd (omega (arith, ap length e)))
                (λ e. read (length front) ∙ get_or-append_right front rest (length front) (length front) 0 refl (omega arith) ∙ ap (λ i. get_or rest i 0) z ∙ e) b.stops,
            one p,
          );
      last = λ p. omega (arith, none (omega arith));
    }
