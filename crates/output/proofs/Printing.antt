-- Text that is printed byte by byte. Assumes nothing.
use Rattle.std.proofs.Common.{◌≡◌, ℕ, ◌<◌, ◌≤◌, List, [], ◌∷◌, ◌++◌, length, min, take, sym, ap, ◌∙◌, ⊎_elim, arith, length-append}
use Rattle.std.proofs.lemmas.Bool.{cases_lt}
use Rattle.std.proofs.lemmas.List.{take_more_set, take-append-le, length-set, length-take, length-take-le, take_all}
use Rattle.output.specs.declared.Output.{Output}
use Rattle.output.specs.Outputs.{Pushes, Shows}

-- how much of a text fits is how much stands there
printed_length : (o : Output) (l : List ℕ) → Shows o l → o.len ≡ min (length o.bytes.now) (length l)
printed_length o l s = sym (length-take-le o.len o.bytes.now s.within) ∙ ap length s.shown ∙ length-take (length o.bytes.now) l

-- a byte for which there's room
push_fits : (o p : Output) (l : List ℕ) (b : ℕ) → o.len < length o.bytes.now → Pushes o b p → Shows o l → Shows p (l ++ b ∷ [])
push_fits o p l b r h s =
    let n = length-append l (b ∷ []) in
    let e = h.fits r in
    let m = printed_length o l s in
    let len : length p.bytes.now ≡ length o.bytes.now = ap length e.1 ∙ length-set o.bytes.now o.len b in
    let low : length l ≤ length o.bytes.now = omega (arith, m, r) in
    let same : take o.len o.bytes.now ≡ l = s.shown ∙ take_all (length o.bytes.now) l low in
    let now : take p.len p.bytes.now ≡ l ++ b ∷ [] = rw (e.0, e.1) (take_more_set o.bytes.now o.len b r ∙ ap (λ (x : List ℕ). x ++ b ∷ []) same) in
    record {
      within = omega (arith, e.0, len, r);
      shown = now ∙ sym (take_all (length p.bytes.now) (l ++ b ∷ []) (omega (arith, n, len, m, r)));
      cut = λ q. absurd (omega (arith, n, len, m, r, q));
    }

-- a byte for which there's none
push_ends : (o p : Output) (l : List ℕ) (b : ℕ) → length o.bytes.now ≤ o.len → Pushes o b p → Shows o l → Shows p (l ++ b ∷ [])
push_ends o p l b r h s =
    let e = h.ends r in
    let m = printed_length o l s in
    let low : length o.bytes.now ≤ length l = omega (arith, m, r) in
    record {
      within = rw (e.0, e.1) s.within;
      shown = rw (e.0, e.1) (s.shown ∙ sym (take-append-le (length o.bytes.now) l (b ∷ []) low));
      cut = λ q. e.2;
    }

-- one byte more
pub shows_push : (o p : Output) (l : List ℕ) (b : ℕ) → Pushes o b p → Shows o l → Shows p (l ++ b ∷ [])
shows_push o p l b h s = ⊎_elim (λ (r : o.len < length o.bytes.now). push_fits o p l b r h s) (λ (r : length o.bytes.now ≤ o.len). push_ends o p l b r h s) (cases_lt o.len (length o.bytes.now))
