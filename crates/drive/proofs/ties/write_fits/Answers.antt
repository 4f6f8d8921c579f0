use Rattle.drive.proofs.TiesSteps.{write_fits}
use Rattle.drive.proofs.ties.write_fits.Goals as goal

pub returns : goal.returns
returns c = write_fits
