use Rattle.drive.proofs.TiesSteps.{copy_fits}
use Rattle.drive.proofs.ties.copy_fits.Goals as goal

pub returns : goal.returns
returns c = copy_fits
