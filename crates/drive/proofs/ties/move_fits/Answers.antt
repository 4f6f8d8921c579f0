use Rattle.drive.proofs.TiesSteps.{move_fits}
use Rattle.drive.proofs.ties.move_fits.Goals as goal

pub returns : goal.returns
returns c = move_fits
