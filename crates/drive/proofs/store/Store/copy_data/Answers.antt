use Rattle.drive.proofs.Readiness.{ready_room}
use Rattle.drive.proofs.store.Store.copy_data.Goals as goal

pub invariant_of-self : goal.invariant_of-self
invariant_of-self g c = record { ready = ready_room _ _ _ _ c.copy_within.ensures.len c.args.self.now.ready }
