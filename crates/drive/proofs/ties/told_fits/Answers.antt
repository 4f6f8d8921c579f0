use Rattle.drive.proofs.TiesSteps.{told_fits}
use Rattle.drive.proofs.ties.told_fits.Goals as goal

pub returns : goal.returns
returns c = told_fits
