use Rattle.std.proofs.Common.{refl}
use Rattle.player.proofs.SmallChip.{small_fits}
use Rattle.player.proofs.small_chip.on_small_chip.Goals as goal

pub returns-in_err-chip-clause-space : goal.returns-in_err-chip-clause-space
returns-in_err-chip-clause-space g c h = absurd (small_fits c.in_err-chip.field-0.0 _ refl refl h c.in_err-chip.ensures)

pub returns-clause-played : goal.returns-clause-played
returns-clause-played g c =
    (c.in_ok-chip.chip, c.play.new.arg2, c.in_ok-chip.ensures, record { shown = _; shows = refl; left = _; met = c.play.ensures; leaves = refl })
