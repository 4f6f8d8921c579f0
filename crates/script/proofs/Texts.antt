-- The lines of commands. Assumes nothing.
use Rattle.std.proofs.Common.{◌≡◌, ℕ, ◌/◌, ◌%◌, ◌^◌, ◌<◌, ◌⊎◌, suc, List, [], ◌∷◌, ◌++◌, length, get_or, Option, Some, None, ◌≢◌, ⊎_elim, rules, codes, decimal, sym, refl, ap, ◌∙◌, append_assoc, arith}
use Rattle.std.proofs.lemmas.Fmt.{decimal_is_IsNumeral, decimal_injective}
use Rattle.std.proofs.lemmas.Str.{digit_value-digit_char}
use Rattle.std.specs.Char.{digit_value}
use Rattle.std.specs.List.{All}
use Rattle.std.specs.Option.{option_map}
use Rattle.script.specs.declared.spans.Span.{Span}
use Rattle.script.specs.declared.commands.Command.{Command}
use Rattle.script.specs.declared.commands.Command.TheVariants.{Write, Read, Trim, Flush, Turn, Cut, Seed}
use Rattle.script.specs.Fields.{field_text, byte_text}
use Rattle.script.specs.Readings.{Ends, SplitBefore, Begins, Once, Never, Whole}
use Rattle.script.specs.Spans.{span_text, SpanFits}
use Rattle.script.proofs.Digits.{same_digits}
use Rattle.script.specs.Commands.{text, Fits, OneReading, ReadsBack}

-- a command's word
abbrev pub name : Command → List ℕ
name (Write tag from many fill) = codes "write"
name (Read tag from many) = codes "read"
name (Trim tag from many) = codes "trim"
name (Flush tag) = codes "flush"
name (Turn count) = codes "turn"
name (Cut asks) = codes "cut"
name (Seed seed) = codes "seed"

-- and what stands behind it
abbrev pub fields : Command → List ℕ
fields (Write tag from many fill) = field_text tag ++ (field_text from ++ (field_text many ++ byte_text fill))
fields (Read tag from many) = field_text tag ++ (field_text from ++ field_text many)
fields (Trim tag from many) = field_text tag ++ (field_text from ++ field_text many)
fields (Flush tag) = field_text tag
fields (Turn count) = field_text count
fields (Cut asks) = field_text asks
fields (Seed seed) = field_text seed

-- the first space stands behind the word
spaced : (word rest more : List ℕ) (n : List ℕ) → All (λ b. b ≢ 32) word → (rest ≡ []) ⊎ (get_or rest 0 0 ≡ 32) → All (λ b. b ≢ 32) n → word ++ rest ≡ n ++ 32 ∷ more → (word ≡ n) × (rest ≡ 32 ∷ more)
spaced [] rest more [] a s b e = (refl, e)
spaced [] rest more (y ∷ n) a s b e = absurd (⊎_elim (λ (q : rest ≡ []). omega (arith, ap length q, ap length e)) (λ q. b 0 0 (omega arith) (sym (ap (λ l. get_or l 0 0) e) ∙ q)) s)
spaced (x ∷ word) rest more [] a s b e = absurd (a 0 0 (omega arith) (ap (λ l. get_or l 0 0) e))
spaced (x ∷ word) rest more (y ∷ n) a s b e =
    let tail : word ++ rest ≡ n ++ 32 ∷ more = cc in
    let ih = spaced word rest more n (λ k d l. a (suc k) d (omega arith)) s (λ k d l. b (suc k) d (omega arith)) tail in (cc, ih.1)

-- the line of a command begins with its word
pub named : (line word rest : List ℕ) (c : Command) → SplitBefore (λ b. b ≢ 32) (λ b. b ≡ 32) line word rest → line ≡ text c → (word ≡ name c) × (rest ≡ fields c)
named line word rest (Write t f m b) h e = spaced word rest _ (codes "write") h.runs h.stops (search rules) (sym h.whole ∙ e)
named line word rest (Read t f m) h e = spaced word rest _ (codes "read") h.runs h.stops (search rules) (sym h.whole ∙ e)
named line word rest (Trim t f m) h e = spaced word rest _ (codes "trim") h.runs h.stops (search rules) (sym h.whole ∙ e)
named line word rest (Flush t) h e = spaced word rest _ (codes "flush") h.runs h.stops (search rules) (sym h.whole ∙ e)
named line word rest (Turn n) h e = spaced word rest _ (codes "turn") h.runs h.stops (search rules) (sym h.whole ∙ e)
named line word rest (Cut n) h e = spaced word rest _ (codes "cut") h.runs h.stops (search rules) (sym h.whole ∙ e)
named line word rest (Seed n) h e = spaced word rest _ (codes "seed") h.runs h.stops (search rules) (sym h.whole ∙ e)

-- behind a word, what is read gives a command or none
pub read_is : (s : List ℕ) (o : Option Span) → Whole span_text SpanFits s o → Whole text Fits (codes "read" ++ s) (option_map (λ v. Read v.tag v.from v.many) o)
read_is s None h = never
  where
    none : (t f m : ℕ) → t < 256 → f < 2 ^ 32 → m < 2 ^ 32 → s ≡ field_text t ++ (field_text f ++ field_text m) → ⊥
    none t f m a b c e = h record { tag = t; from = f; many = m } (a, b, c) e

    never : (c : Command) → Fits c → codes "read" ++ s ≡ text c → ⊥
    never c k e = grind (arith, none)
read_is s (Some v) h = (h.0, ap (λ l. codes "read" ++ l) h.1)

pub trim_is : (s : List ℕ) (o : Option Span) → Whole span_text SpanFits s o → Whole text Fits (codes "trim" ++ s) (option_map (λ v. Trim v.tag v.from v.many) o)
trim_is s None h = never
  where
    none : (t f m : ℕ) → t < 256 → f < 2 ^ 32 → m < 2 ^ 32 → s ≡ field_text t ++ (field_text f ++ field_text m) → ⊥
    none t f m a b c e = h record { tag = t; from = f; many = m } (a, b, c) e

    never : (c : Command) → Fits c → codes "trim" ++ s ≡ text c → ⊥
    never c k e = grind (arith, none)
trim_is s (Some v) h = (h.0, ap (λ l. codes "trim" ++ l) h.1)

pub flush_is : (s : List ℕ) (o : Option ℕ) → Whole field_text (λ n. n < 256) s o → Whole text Fits (codes "flush" ++ s) (option_map Flush o)
flush_is s None h = never
  where
    never : (c : Command) → Fits c → codes "flush" ++ s ≡ text c → ⊥
    never c k e = grind (arith, h)
flush_is s (Some v) h = (h.0, ap (λ l. codes "flush" ++ l) h.1)

pub turn_is : (s : List ℕ) (o : Option ℕ) → Whole field_text (λ n. n < 2 ^ 32) s o → Whole text Fits (codes "turn" ++ s) (option_map Turn o)
turn_is s None h = never
  where
    never : (c : Command) → Fits c → codes "turn" ++ s ≡ text c → ⊥
    never c k e = grind (arith, h)
turn_is s (Some v) h = (h.0, ap (λ l. codes "turn" ++ l) h.1)

pub seed_is : (s : List ℕ) (o : Option ℕ) → Whole field_text (λ n. n < 2 ^ 32) s o → Whole text Fits (codes "seed" ++ s) (option_map Seed o)
seed_is s None h = never
  where
    never : (c : Command) → Fits c → codes "seed" ++ s ≡ text c → ⊥
    never c k e = grind (arith, h)
seed_is s (Some v) h = (h.0, ap (λ l. codes "seed" ++ l) h.1)

-- the fields of a write begin with a span
write_begins : (s : List ℕ) (t f m b : ℕ) → t < 256 → f < 2 ^ 32 → m < 2 ^ 32 → s ≡ field_text t ++ (field_text f ++ (field_text m ++ byte_text b)) → Begins span_text SpanFits s (record { tag = t; from = f; many = m }) (byte_text b)
write_begins s t f m b ht hf hm e = record { fit = (ht, hf, hm); ends = λ d. omega arith; same = simp append_assoc e }

-- behind `write` no span is read
pub write_never : (s : List ℕ) → Never span_text SpanFits s → (c : Command) → Fits c → codes "write" ++ s ≡ text c → ⊥
write_never s never c h e =
    let none : (t f m b : ℕ) → t < 256 → f < 2 ^ 32 → m < 2 ^ 32 → s ≡ field_text t ++ (field_text f ++ (field_text m ++ byte_text b)) → ⊥ =
    λ t f m b ht hf hm q. never record { tag = t; from = f; many = m } (byte_text b) (write_begins s t f m b ht hf hm q) in
    grind (arith, none)

-- behind the span no byte is read
pub write_no_byte : (s : List ℕ) (v : Span) (rest : List ℕ) → Once span_text SpanFits s v rest → ((b : ℕ) → b < 256 → rest ≡ byte_text b → ⊥) → (c : Command) → Fits c → codes "write" ++ s ≡ text c → ⊥
write_no_byte s v rest o never c h e =
    let none : (t f m b : ℕ) → t < 256 → f < 2 ^ 32 → m < 2 ^ 32 → b < 256 → s ≡ field_text t ++ (field_text f ++ (field_text m ++ byte_text b)) → ⊥ =
    λ t f m b ht hf hm hb q. never b hb (sym (o.only _ (byte_text b) (write_begins s t f m b ht hf hm q)).1) in
    grind (arith, none)

-- numbers, bytes and ranges that are written alike are the same
same_field : (m n : ℕ) (a b : List ℕ) → m < 2 ^ 32 → n < 2 ^ 32 → Ends a → Ends b → decimal m ++ a ≡ decimal n ++ b → (m ≡ n) × (a ≡ b)
same_field m n a b h k p q e =
    let d = same_digits (decimal m) (decimal n) a b (decimal_is_IsNumeral m (omega arith)).0.1 (decimal_is_IsNumeral n (omega arith)).0.1 p q e in
    (decimal_injective m n (omega arith) (omega arith) d.0, d.1)

same_byte : (a b : ℕ) → a < 256 → b < 256 → byte_text a ≡ byte_text b → a ≡ b
same_byte a b h k e =
    let high : a / 16 ≡ b / 16 =
    sym (digit_value-digit_char (a / 16) (omega arith)) ∙ ap (λ l. digit_value (get_or l 1 0)) e ∙ digit_value-digit_char (b / 16) (omega arith) in
    let low : a % 16 ≡ b % 16 =
    sym (digit_value-digit_char (a % 16) (omega arith)) ∙ ap (λ l. digit_value (get_or l 2 0)) e ∙ digit_value-digit_char (b % 16) (omega arith) in
    omega arith

same_three : (t f m t' f' m' : ℕ) → t < 256 → f < 2 ^ 32 → m < 2 ^ 32 → t' < 256 → f' < 2 ^ 32 → m' < 2 ^ 32 → decimal t ++ (field_text f ++ field_text m) ≡ decimal t' ++ (field_text f' ++ field_text m') → (t ≡ t') × (f ≡ f') × (m ≡ m')
same_three t f m t' f' m' ht hf hm kt kf km e =
    let p = same_field t t' (field_text f ++ field_text m) (field_text f' ++ field_text m') (omega arith) (omega arith) (λ d. omega arith) (λ d. omega arith) e in
    let q = same_field f f' (field_text m) (field_text m') hf kf (λ d. omega arith) (λ d. omega arith) (cc) in
    (p.0, q.0, decimal_injective m m' (omega arith) (omega arith) (cc))

same_four : (t f m b t' f' m' b' : ℕ) → t < 256 → f < 2 ^ 32 → m < 2 ^ 32 → b < 256 → t' < 256 → f' < 2 ^ 32 → m' < 2 ^ 32 → b' < 256 → decimal t ++ (field_text f ++ (field_text m ++ byte_text b)) ≡ decimal t' ++ (field_text f' ++ (field_text m' ++ byte_text b')) → (t ≡ t') × (f ≡ f') × (m ≡ m') × (b ≡ b')
same_four t f m b t' f' m' b' ht hf hm hb kt kf km kb e =
    let p = same_field t t' (field_text f ++ (field_text m ++ byte_text b)) (field_text f' ++ (field_text m' ++ byte_text b')) (omega arith) (omega arith) (λ d. omega arith) (λ d. omega arith) e in
    let q = same_field f f' (field_text m ++ byte_text b) (field_text m' ++ byte_text b') hf kf (λ d. omega arith) (λ d. omega arith) (cc) in
    let r = same_field m m' (byte_text b) (byte_text b') hm km (λ d. omega arith) (λ d. omega arith) (cc) in
    (p.0, q.0, r.0, same_byte b b' hb kb r.1)

pub one_reading : OneReading
one_reading (Write t f m b) d h k e = grind (arith, same_four t f m b)
one_reading (Read t f m) d h k e = grind (arith, same_three t f m)
one_reading (Trim t f m) d h k e = grind (arith, same_three t f m)
one_reading (Flush t) d h k e = grind (arith, decimal_injective)
one_reading (Turn n) d h k e = grind (arith, decimal_injective)
one_reading (Cut n) d h k e = grind (arith, decimal_injective)
one_reading (Seed n) d h k e = grind (arith, decimal_injective)

pub reads_back : ReadsBack
reads_back c None h w = absurd (w c h refl)
reads_back c (Some d) h w = ap Some (one_reading d c w.0 h (sym w.1))
