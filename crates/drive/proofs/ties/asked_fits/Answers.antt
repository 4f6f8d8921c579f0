use Rattle.drive.proofs.TiesSteps.{asked_fits}
use Rattle.drive.proofs.ties.asked_fits.Goals as goal

pub returns : goal.returns
returns c = asked_fits
