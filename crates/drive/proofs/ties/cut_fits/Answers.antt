use Rattle.drive.proofs.TiesSteps.{cut_fits}
use Rattle.drive.proofs.ties.cut_fits.Goals as goal

pub returns : goal.returns
returns c = cut_fits
