-- What a player keeps.
-- Assumes nothing.
use Rattle.std.specs.Prelude.{◌≡◌}
use Rattle.drive.specs.declared.Chip.{Ghosts}
use Rattle.player.specs.declared.player.Player.{Player}

-- the same chip and room are lent
pub record Same {C : Type 0} {c : Ghosts C} (p q : Player C c) : Type 0 where
  pub chip : q.chip.ghost_name ≡ p.chip.ghost_name
  pub room : q.room.ghost_name ≡ p.room.ghost_name
