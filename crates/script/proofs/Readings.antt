-- Fields read one after another, and lines that end behind them. Assumes nothing.
use Rattle.std.proofs.Common.{◌≡◌, ℕ, ◌<◌, List, [], ◌++◌, length, Option, Some, None, MatchOption, sym, ap, ◌∙◌, subst, arith}
use Rattle.std.proofs.lemmas.List.{append-nil}
use Rattle.script.specs.Readings.{Once, Never, Whole}

-- a line that does not begin with a value is none
pub whole_never : {V : Type 0} (text : V → List ℕ) (Fit : V → Type 0) (s : List ℕ) → Never text Fit s → (v : V) → Fit v → s ≡ text v → ⊥
whole_never text Fit s never v h e = never v [] record { fit = h; ends = tt; same = e ∙ sym (append-nil (text v)) }

-- nor is one that goes on behind it
pub whole_more : {V : Type 0} (text : V → List ℕ) (Fit : V → Type 0) (s : List ℕ) (v : V) (rest : List ℕ) → Once text Fit s v rest → 0 < length rest → (w : V) → Fit w → s ≡ text w → ⊥
whole_more text Fit s v rest o more w h e =
    let b = o.only w [] record { fit = h; ends = tt; same = e ∙ sym (append-nil (text w)) } in omega (arith, ap length b.1)

-- a value with nothing behind it is the line, and one with more is none
pub whole_alone : {V : Type 0} (text : V → List ℕ) (Fit : V → Type 0) (s : List ℕ) (v : V) (rest : List ℕ) → Once text Fit s v rest → (r : Option V) → MatchOption r (0 < length rest) (λ w. (w ≡ v) × (rest ≡ [])) → Whole text Fit s r
whole_alone text Fit s v rest o None h = whole_more text Fit s v rest o h
whole_alone text Fit s v rest o (Some w) h = subst (λ x. Fit x × (s ≡ text x)) (sym h.0) (o.begins.fit, o.begins.same ∙ ap (λ r. text v ++ r) h.1 ∙ append-nil (text v))
