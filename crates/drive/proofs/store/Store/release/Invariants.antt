use Rattle.drive.specs.Stores.{Spent, Noted}
use Rattle.drive.proofs.store.Store.release.Given as goal

abbrev pub invariant-loop : goal.invariant-loop
invariant-loop g l = Spent 0 l.initial.self l.self × Noted l.initial.self l.self
