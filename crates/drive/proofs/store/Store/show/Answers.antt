use Rattle.std.proofs.Common.{refl}
use Rattle.drive.proofs.Readiness.{ready_read}
use Rattle.drive.proofs.store.Store.show.Goals as goal

pub invariant_of-self-2 : goal.invariant_of-self-2
invariant_of-self-2 g c = record { ready = ready_read _ _ _ _ _ _ _ c.args.self.now.ready c.requires c.read_mark.ensures c.read_mark.auto.room refl refl refl }
