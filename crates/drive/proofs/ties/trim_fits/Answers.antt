use Rattle.drive.proofs.TiesSteps.{trim_fits}
use Rattle.drive.proofs.ties.trim_fits.Goals as goal

pub returns : goal.returns
returns c = trim_fits
