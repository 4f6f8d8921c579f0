use Rattle.drive.specs.Stores.{Same}
use Rattle.drive.proofs.store.Store.copy_head.Given as goal

abbrev pub invariant-loop-done : goal.invariant-loop-done
invariant-loop-done g l = Same l.initial.self l.self
