-- Reading in two steps. Assumes nothing.
use Rattle.std.proofs.Common.{◌≡◌, Ok, Err, Result, sym, ap, ◌∙◌, rules}
use Rattle.std.specs.Result.{IsErr}
use Rattle.record.specs.Decoding.{Decoded, Distinct}

-- an error is right where no value is written as b
pub refused : {A B E : Type 0} (f : A → B) (b : B) (r : Result A E) → IsErr r → ((a : A) → b ≡ f a → ⊥) → Decoded f b r
refused f b (Ok a) i never = absurd (search rules)
refused f b (Err e) i never = never

-- what is found in b, where c is written b and no two are written alike, is found in c
pub through : {A B C E : Type 0} (f : A → B) (g : B → C) → Distinct g → (c : C) (b : B) (r : Result A E) → c ≡ g b → Decoded f b r → Decoded (λ (a : A). g (f a)) c r
through f g alike c b (Ok a) e d = e ∙ ap g d
through f g alike c b (Err x) e d = λ a h. d a (alike b (f a) (sym e ∙ h))

-- what was written is read back
pub read_back : {A B E : Type 0} (f : A → B) → Distinct f → (a : A) (b : B) (r : Result A E) → b ≡ f a → Decoded f b r → r ≡ Ok a
read_back f alike a b (Ok x) e d = ap Ok (sym (alike a x (sym e ∙ d)))
read_back f alike a b (Err x) e d = absurd (d a e)
