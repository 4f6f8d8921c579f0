use Rattle.std.proofs.Common.{◌^◌, ◌<◌}
use Rattle.std.specs.Str.Parse.{digits_value}
use Rattle.script.proofs.Digits.{Remaining}
use Rattle.script.proofs.words.digits_value.Given as goal

abbrev pub invariant-loop-c : goal.invariant-loop-c
invariant-loop-c l = (l.n < 2 ^ 32) × Remaining l.digits l.c-index l.n (digits_value 10 l.digits)
