use Rattle.drive.proofs.TiesSteps.{other_fits}
use Rattle.drive.proofs.ties.other_fits.Goals as goal

pub returns : goal.returns
returns c = other_fits
