use Rattle.drive.specs.Stores.{Same}
use Rattle.drive.proofs.store.Store.read_all.Given as goal

abbrev pub invariant-loop-i : goal.invariant-loop-i
invariant-loop-i g l = Same l.initial.self l.self
