use Rattle.drive.proofs.TiesSteps.{taken_fits}
use Rattle.drive.proofs.ties.taken_fits.Goals as goal

pub returns : goal.returns
returns c = taken_fits
