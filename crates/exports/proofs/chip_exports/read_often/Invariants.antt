use Rattle.std.proofs.Common.{◌≤◌}
use Rattle.exports.proofs.chip_exports.read_often.Given as goal

abbrev pub invariant-loop : goal.invariant-loop
invariant-loop g l = l.done ≤ l.counter
