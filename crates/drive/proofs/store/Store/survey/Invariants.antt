use Rattle.drive.specs.Stores.{Same}
use Rattle.drive.proofs.store.Store.survey.Given as goal

abbrev pub invariant-loop-block : goal.invariant-loop-block
invariant-loop-block g l = Same l.initial.self l.self
