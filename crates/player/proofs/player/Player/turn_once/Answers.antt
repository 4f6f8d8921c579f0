use Rattle.player.proofs.Ready.{standing_taken, standing-allowed}
use Rattle.player.proofs.player.Player.turn_once.Goals as goal

pub turn-requires-clause-stands : goal.turn-requires-clause-stands
turn-requires-clause-stands g c =
    let stands = standing_taken _ _ _ c.in-Some.drive _ c.take.ensures.value c.in-Some.is c.ensure_up.new.self.up in
    standing-allowed _ _ 64 c.in-Some.drive _ c.allow.ensures stands
