use Rattle.drive.proofs.TiesSteps.{turned_fits}
use Rattle.drive.proofs.ties.turned_fits.Goals as goal

pub returns : goal.returns
returns c = turned_fits
