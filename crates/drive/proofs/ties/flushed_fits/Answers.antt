use Rattle.drive.proofs.TiesSteps.{flushed_fits}
use Rattle.drive.proofs.ties.flushed_fits.Goals as goal

pub returns : goal.returns
returns c = flushed_fits
