use Rattle.std.proofs.Common.{◌-◌, ◌≤◌, length}
use Rattle.player.specs.Players.{Same}
use Rattle.player.proofs.play.Player+MemoryChip.play_script.Given as goal

abbrev pub invariant-loop-line : goal.invariant-loop-line
invariant-loop-line l = (l.number ≤ l.at) × (l.at ≤ length l.initial.script) × Same l.initial.self l.self

abbrev pub decreases-loop-line : goal.decreases-loop-line
decreases-loop-line l = length l.initial.script - l.at
