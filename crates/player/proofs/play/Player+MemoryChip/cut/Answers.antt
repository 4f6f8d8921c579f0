use Rattle.player.proofs.Ready.{up_cut}
use Rattle.player.proofs.play.Player+MemoryChip.cut.Goals as goal

pub invariant_of-self : goal.invariant_of-self
invariant_of-self c = record { up = up_cut _ _ c.from.result _ _ c.cut.ensures.now c.cut.ensures.later c.args.self.now.up }
