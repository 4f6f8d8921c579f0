use Rattle.player.specs.Players.{Same}
use Rattle.player.proofs.player.Player.ensure_up.Given as goal

abbrev pub invariant-loop : goal.invariant-loop
invariant-loop g l = Same l.initial.self l.self
