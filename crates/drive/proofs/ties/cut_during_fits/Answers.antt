use Rattle.drive.proofs.TiesSteps.{cut_during_fits}
use Rattle.drive.proofs.ties.cut_during_fits.Goals as goal

pub returns : goal.returns
returns c = cut_during_fits
