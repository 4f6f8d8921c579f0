use Rattle.std.proofs.Common.{◌≡◌, ◌++◌, take, drop, map}
use Rattle.bench.specs.Held.{worn_state}
use Rattle.bench.proofs.memory.wear.Given as goal

abbrev pub invariant-loop-state : goal.invariant-loop-state
invariant-loop-state l = l.states ≡ map (worn_state l.answer) (take l.state-index l.initial.states) ++ drop l.state-index l.initial.states
