-- The worked examples. Assumes nothing.
use Rattle.std.proofs.Common.{◌≡◌, ℕ, zero, suc, ◌+◌, ◌-◌, ◌^◌, ◌<◌, ◌≤◌, Bool, true, cond, ◌&&◌, T, eqb, set, replicate, refl, ap, ◌∙◌, subst, ⊎_elim, arith, eqb→eq}
use Rattle.codec.proofs.Marks.{both}
use Rattle.std.proofs.lemmas.Bool.{cases_lt, lt-ltb, le-ltb}
use Rattle.drive.specs.Bits.{apart, apart_bits, mark}
use Rattle.drive.specs.Host.{tag_taken, wrong}
use Rattle.drive.specs.Examples.{WhyTold, SixApart}

-- ---- four commands

pub why_told : WhyTold
unfolding wrong
why_told size h p = (
  λ c. refl,
  λ t e.
      let first : (n : ℕ) → cond (tag_taken t h) 1 n ≡ n = λ n. ap (λ (b : Bool). cond b 1 n) e in
      let beyond = lt-ltb size (size - 1 + 2) (omega arith) in
      let last = le-ltb size (size - 1 + 1) (omega arith) in
      (λ from. first 2, first _ ∙ ap (λ (b : Bool). cond b 3 0) beyond, λ bs. first _ ∙ ap (λ (b : Bool). cond b 3 0) last),
)

-- ---- marks of what differs in one bit

-- a test of all numbers below n
upto : ℕ → (ℕ → Bool) → Bool
upto zero f = true
upto (suc n) f = f n && upto n f

upto_at : (n : ℕ) (f : ℕ → Bool) → T (upto n f) → (i : ℕ) → i < n → T (f i)
unfolding upto
upto_at zero f h i l = absurd (omega arith)
upto_at (suc n) f h i l =
    let p = both (f n) (upto n f) h in
    ⊎_elim (λ (k : i < n). upto_at n f p.1 i k) (λ (k : n ≤ i). subst (λ x. T (f x)) (omega arith) p.0) (cases_lt i n)

abbrev differ : ℕ → ℕ → ℕ
differ i j = apart (mark (replicate 32 0)) (mark (set (replicate 32 0) i (2 ^ j)))

six : T (upto 32 (λ i. upto 8 (λ j. eqb (differ i j) 6)))
unfolding upto apart apart_bits
six = tt

pub six_apart : SixApart
six_apart i j h k = eqb→eq (differ i j) 6 (upto_at 8 (λ b. eqb (differ i b) 6) (upto_at 32 (λ a. upto 8 (λ b. eqb (differ a b) 6)) six i h) j k)
