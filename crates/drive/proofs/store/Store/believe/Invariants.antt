use Rattle.drive.specs.Stores.{Same}
use Rattle.drive.proofs.store.Store.believe.Given as goal

abbrev pub invariant-loop-page : goal.invariant-loop-page
invariant-loop-page g l = Same l.initial.self l.self
