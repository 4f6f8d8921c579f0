use Rattle.drive.proofs.TiesSteps.{seal_fits}
use Rattle.drive.proofs.ties.seal_fits.Goals as goal

pub returns : goal.returns
returns c = seal_fits
