use Rattle.drive.proofs.TiesSteps.{new_fits}
use Rattle.drive.proofs.ties.new_fits.Goals as goal

pub returns : goal.returns
returns c = new_fits
