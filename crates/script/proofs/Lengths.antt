-- How long the lines of commands are. Assumes nothing.
use Rattle.std.proofs.Common.{ℕ, ◌+◌, ◌^◌, ◌<◌, ◌≤◌, length, arith, length-append}
use Rattle.std.proofs.lemmas.Fmt.{length-decimal-le}
use Rattle.script.specs.declared.commands.Command.{Command}
use Rattle.script.specs.declared.commands.Command.TheVariants.{Write, Read, Trim, Flush, Turn, Cut, Seed}
use Rattle.script.specs.Commands.{text, Fits}
use Rattle.script.specs.Fields.{field_text}

tag_short : (n : ℕ) → n < 256 → length (field_text n) ≤ 4
tag_short n h = omega (arith, length-decimal-le 3 n (omega arith) (omega arith) (omega arith))

number_short : (n : ℕ) → n < 2 ^ 32 → length (field_text n) ≤ 11
number_short n h = omega (arith, length-decimal-le 10 n (omega arith) (omega arith) (omega arith))

three_short : (t f m : ℕ) → t < 256 → f < 2 ^ 32 → m < 2 ^ 32 → length (field_text t) + length (field_text f) + length (field_text m) ≤ 26
three_short t f m ht hf hm = omega (arith, tag_short t ht, number_short f hf, number_short m hm)

-- no command has more than 40 bytes
pub text_short : (c : Command) → Fits c → length (text c) ≤ 40
text_short (Write t f m b) h = simp length-append (omega (arith, three_short t f m h.0 h.1 h.2))
text_short (Read t f m) h = simp length-append (omega (arith, three_short t f m h.0 h.1 h.2))
text_short (Trim t f m) h = simp length-append (omega (arith, three_short t f m h.0 h.1 h.2))
text_short (Flush t) h = omega (arith, tag_short t h)
text_short (Turn n) h = omega (arith, number_short n h)
text_short (Cut n) h = omega (arith, number_short n h)
text_short (Seed n) h = omega (arith, number_short n h)
