use Rattle.player.proofs.Ready.{standing_taken, standing_asked}
use Rattle.player.proofs.player.Player.ask.Goals as goal

pub invariant_of-self-else-why-ne0 : goal.invariant_of-self-else-why-ne0
invariant_of-self-else-why-ne0 g c =
    let stands = standing_taken _ _ _ c.in-Some.drive _ c.take.ensures.value c.in-Some.is c.ensure_up.new.self.up in
    record { up = standing_asked _ c.in-Some.drive c.ask-why.new.self _ _ c.ask-why.ensures.keeps c.ask-why.auto.room stands }
