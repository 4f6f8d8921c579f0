use Rattle.drive.specs.Stores.{Spent, Wrote}
use Rattle.drive.proofs.store.Store.place_entries.Given as goal

abbrev pub invariant-loop-i : goal.invariant-loop-i
invariant-loop-i g l = Spent 0 l.initial.self l.self × Wrote l.initial.self l.self
