use Rattle.exports.specs.States.{StandFor}
use Rattle.exports.proofs.page_states.unpack.Given as goal

abbrev pub invariant-loop-k : goal.invariant-loop-k
invariant-loop-k l = StandFor l.k l.codes l.states
