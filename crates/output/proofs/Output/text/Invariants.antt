use Rattle.std.proofs.Common.{ℕ, List, ◌++◌, take}
use Rattle.output.specs.Outputs.{Shows}
use Rattle.output.proofs.Output.text.Given as goal

abbrev pub invariant-loop-b : goal.invariant-loop-b
invariant-loop-b l = (t : List ℕ) → Shows l.initial.self t → Shows l.self (t ++ take l.b-index l.initial.bytes)
