use Rattle.drive.proofs.TiesSteps.{opened_fits}
use Rattle.drive.proofs.ties.opened_fits.Goals as goal

pub returns : goal.returns
returns c = opened_fits
