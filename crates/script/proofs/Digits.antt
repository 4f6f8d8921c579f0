-- Digits at the front of a line, and the number that they write. Assumes nothing.
use Rattle.std.proofs.Common.{◌≡◌, ℕ, ◌⊎◌, inl, inr, ◌+◌, ◌-◌, ◌*◌, ◌^◌, ◌<◌, ◌≤◌, List, [], ◌∷◌, ◌++◌, length, get_or, drop, decimal, sym, refl, ap, ◌∙◌, subst, ⊎_elim, arith}
use Rattle.std.specs.Str.Parse.{AllDigits, digits_value, digits_value_after}
use Rattle.std.specs.Int.{IsInRange}
use Rattle.std.specs.Char.{digit_value as digitValue}
use Rattle.std.proofs.lemmas.Fmt.{decimal_is_IsNumeral, decimal_digit, decimal_nonempty, first_decimal, decimal_injective, decimal-digits_value}
use Rattle.std.proofs.lemmas.List.{drop_more}
use Rattle.std.proofs.lemmas.Str.Parse.{IsNumeralModel, numerals_by_value, tells_digits, tells_by_index, digit_from_value}
use Rattle.std.proofs.lemmas.Bool.{cases_lt, lt-ltb, le-ltb}
use Rattle.script.specs.Readings.{Ends, Plain, SplitBefore, SplitDigits, Once, Never}

own : IsNumeralModel (AllDigits 10) (digits_value 10)
own = numerals_by_value (AllDigits 10) tells_digits

-- where digits end is told by what follows
pub same_digits : (xs ys a b : List ℕ) → AllDigits 10 xs → AllDigits 10 ys → Ends a → Ends b → xs ++ a ≡ ys ++ b → (xs ≡ ys) × (a ≡ b)
same_digits [] [] a b dx dy ea eb e = (refl, e)
same_digits [] (y ∷ ys) a b dx dy ea eb e = absurd (subst (λ l. Ends l) e ea (digit_from_value y dy.0))
same_digits (x ∷ xs) [] a b dx dy ea eb e = absurd (subst (λ l. Ends l) (sym e) eb (digit_from_value x dx.0))
same_digits (x ∷ xs) (y ∷ ys) a b dx dy ea eb e =
    let tail : xs ++ a ≡ ys ++ b = cc in let ih = same_digits xs ys a b dx.1 dy.1 ea eb tail in (cc, ih.1)

-- the digits ds are a number's
pub number_once : (s ds rest : List ℕ) (n : ℕ) → SplitDigits s ds rest → Plain ds → (digits_value 10 ds < 2 ^ 32) × (n ≡ digits_value 10 ds) → Once decimal (λ m. m < 2 ^ 32) s n rest
number_once s ds rest n c p v =
    let t : decimal n ≡ ds = ap decimal v.1 ∙ decimal-digits_value own ds c.digits p.0 p.1 (omega arith) in
    record {
      begins = record { fit = omega arith; ends = c.ends; same = c.whole ∙ ap (λ x. x ++ rest) (sym t) };
      only =
          λ w more b.
          let small : w < 2 ^ 32 = b.fit in
          let f = same_digits (decimal w) ds more rest (decimal_is_IsNumeral w (omega arith)).0.1 c.digits b.ends c.ends (sym b.same ∙ c.whole) in
          (decimal_injective w n (omega arith) (omega arith) (f.0 ∙ sym t), f.1);
    }

-- the digits ds are no number's
pub number_never : (s ds rest : List ℕ) → SplitDigits s ds rest → ((w : ℕ) → w < 2 ^ 32 → ds ≡ decimal w → ⊥) → Never decimal (λ m. m < 2 ^ 32) s
number_never s ds rest c none v more b =
    let small : v < 2 ^ 32 = b.fit in
    none v small (same_digits ds (decimal v) rest more c.digits (decimal_is_IsNumeral v (omega arith)).0.1 c.ends b.ends (sym c.whole ∙ b.same)).0

-- a number is written plainly
decimal_plain : (w : ℕ) → w < 2 ^ 32 → Plain (decimal w)
decimal_plain w h = (
  decimal_nonempty w (omega arith),
  λ e. ⊎_elim
      (λ (p : 0 < w). absurd (omega (arith, first_decimal w p (omega arith))))
      (λ (p : w ≤ 0). ap length (decimal_digit w (omega arith)))
      (cases_lt 0 w),
)

pub none_unplain : (ds : List ℕ) → (Plain ds → ⊥) → (w : ℕ) → w < 2 ^ 32 → ds ≡ decimal w → ⊥
none_unplain ds other w h e = other (subst (λ l. Plain l) (sym e) (decimal_plain w h))

-- and below 2^32 with digits that write no more
pub none_so_large : (ds : List ℕ) → (digits_value 10 ds < 2 ^ 32 → ⊥) → (w : ℕ) → w < 2 ^ 32 → ds ≡ decimal w → ⊥
none_so_large ds large w h e = large (omega (arith, ap (digits_value 10) e, (decimal_is_IsNumeral w (omega arith)).1))

digit_value : (c : ℕ) → digitValue c < 10 → digitValue c ≡ c - 48
digit_value c h = let p = digit_from_value c h in rw (le-ltb c 48 p.0, lt-ltb c 58 (omega arith))

-- more digits write no less
value_after_ge : (n : ℕ) (ds : List ℕ) → n ≤ digits_value_after 10 n ds
value_after_ge n [] = omega arith
value_after_ge n (c ∷ cs) = omega (arith, value_after_ge (n * 10 + digitValue c) cs)

-- n, and the digits from i on, write v
pub record Remaining (s : List ℕ) (i n v : ℕ) : Type 0 where
  pub digits : AllDigits 10 (drop i s)
  pub writes : digits_value_after 10 n (drop i s) ≡ v

-- one digit on
pub remaining_more : (s : List ℕ) (i n v : ℕ) → i < length s → Remaining s i n v → IsInRange 48 57 (get_or s i 0) × Remaining s (i + 1) (n * 10 + (get_or s i 0 - 48)) v
remaining_more s i n v h l =
    let d : AllDigits 10 (get_or s i 0 ∷ drop (i + 1) s) = rw (drop_more s i 0 h) at l.digits in
    let w : digits_value_after 10 (n * 10 + digitValue (get_or s i 0)) (drop (i + 1) s) ≡ v = rw (drop_more s i 0 h) at l.writes in
    (digit_from_value _ d.0, record { digits = d.1; writes = rw (digit_value (get_or s i 0) d.0) at w })

-- what is reached is not passed below again
pub remaining_over : (s : List ℕ) (i n v m : ℕ) → i < length s → Remaining s i n v → m ≤ n * 10 + (get_or s i 0 - 48) → m ≤ v
remaining_over s i n v m h l k =
    let r = (remaining_more s i n v h l).1 in omega (arith, r.writes, value_after_ge (n * 10 + (get_or s i 0 - 48)) (drop (i + 1) s))

-- what is read up to the first byte that is no digit are the digits that a line begins with
pub digits_before : {Runs Stops : ℕ → Type 0} (s ds rest : List ℕ) → SplitBefore Runs Stops s ds rest → ((c : ℕ) → Runs c → IsInRange 48 57 c) → ((c : ℕ) → Stops c → IsInRange 48 57 c → ⊥) → SplitDigits s ds rest
digits_before {Runs} {Stops} s ds rest b is isnt =
    record { whole = b.whole; digits = (numerals_by_value _ tells_by_index).to ds (λ k l. is _ (b.runs k 0 l)); ends = ends rest b.stops }
  where
    ends : (r : List ℕ) → (r ≡ []) ⊎ Stops (get_or r 0 0) → Ends r
    ends [] h = tt
    ends (c ∷ cs) h = ⊎_elim (λ (e : c ∷ cs ≡ []). absurd (omega (arith, ap length e))) (isnt c) h

-- the same bytes are told by other tests
pub split_kinds : {Runs Stops Runs' Stops' : ℕ → Type 0} (s front rest : List ℕ) → SplitBefore Runs Stops s front rest → ((c : ℕ) → Runs c → Runs' c) → ((c : ℕ) → Stops c → Stops' c) → SplitBefore Runs' Stops' s front rest
split_kinds s front rest b f g = record { whole = b.whole; runs = λ k d l. f _ (b.runs k d l); stops = ⊎_elim inl (λ h. inr (g _ h)) b.stops }
