use Rattle.drive.specs.Stores.{Same}
use Rattle.drive.proofs.store.Store.walk.Given as goal

abbrev pub invariant-loop : goal.invariant-loop
invariant-loop g l = Same l.initial.self l.self
