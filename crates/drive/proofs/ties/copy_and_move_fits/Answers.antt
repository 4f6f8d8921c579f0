use Rattle.drive.proofs.TiesSteps.{copy_move_fits}
use Rattle.drive.proofs.ties.copy_and_move_fits.Goals as goal

pub returns : goal.returns
returns c = copy_move_fits
