-- A line that comes byte by byte. Assumes nothing.
use Rattle.std.proofs.Common.{◌≡◌, ℕ, ◌<◌, ◌≤◌, List, ◌++◌, length, take, Option, Some, None, [], ◌∷◌, Ok, Err, Result, OnOk, OnErr, IsOk, sym, refl, ap, ◌∙◌, subst, ⊎_elim, arith, length-append, length-take}
use Rattle.std.proofs.lemmas.Bool.{cases_lt}
use Rattle.std.proofs.lemmas.List.{take_all, take-append-le}
use Rattle.arrayvec.specs.ArrayVec.{ArrayVec}
use Rattle.script.specs.Commands.{text, Fits}
use Rattle.script.specs.declared.commands.Command.{Command}
use Rattle.script.specs.Readings.{Whole}
use Rattle.script.proofs.Lengths.{text_short}
use Rattle.line_buffer.specs.Buffers.{kept}

-- a byte is taken where there is room for it
pub kept_more : {E : Type 0} (r : Result (Unit {0}) E) (old new : ArrayVec ℕ) (b : ℕ) → OnOk r (new.items ≡ old.items ++ b ∷ []) → OnErr r (new ≡ old) → OnErr r (length old.items ≡ 41) → (IsOk r → length old.items < 41) → new.items ≡ kept (old.items ++ b ∷ [])
kept_more (Ok u) old new b ok err full room = ok ∙ sym (take_all 41 (old.items ++ b ∷ []) (omega (arith, room refl, length-append old.items (b ∷ []))))
kept_more (Err e) old new b ok err full room =
    ap (λ v. v.items) err ∙ sym (take-append-le 41 old.items (b ∷ []) (omega arith) ∙ take_all 41 old.items (omega arith))

-- what is kept of a line stands for the line when one byte more comes
pub kept_step : (s l : List ℕ) (b : ℕ) → s ≡ kept l → kept (s ++ b ∷ []) ≡ kept (l ++ b ∷ [])
kept_step s l b e =
    ⊎_elim (λ (p : 40 < length l).
    let n : 41 ≤ length s = omega (arith, ap length e, length-take 41 l) in
    take-append-le 41 s (b ∷ []) n ∙ ap (take 41) e ∙ take_twice l ∙ sym (take-append-le 41 l (b ∷ []) (omega arith)))
    (λ (p : length l ≤ 40). ap (λ x. kept (x ++ b ∷ [])) (e ∙ take_all 41 l (omega arith)))
    (cases_lt 40 (length l))
  where
    take_twice : (l : List ℕ) → take 41 (take 41 l) ≡ take 41 l
    take_twice l = take_all 41 (take 41 l) (omega (arith, length-take 41 l))

-- what is found in a buffer is what the line gives
pub same_reading : (s l : List ℕ) (r : Option Command) → s ≡ kept l → Whole text Fits s r → Whole text Fits l r
same_reading s l r e h =
    ⊎_elim (λ (p : 40 < length l). long r h p)
    (λ (p : length l ≤ 40). subst (λ x. Whole text Fits x r) (e ∙ take_all 41 l (omega arith)) h)
    (cases_lt 40 (length l))
  where
    long : (r : Option Command) → Whole text Fits s r → 40 < length l → Whole text Fits l r
    long None h p = λ c f q. absurd (omega (arith, text_short c f, ap length q))
    long (Some c) h p = absurd (omega (arith, text_short c h.0, ap length h.1, ap length e, length-take 41 l))
