use Rattle.drive.proofs.TiesSteps.{lasting_fits}
use Rattle.drive.proofs.ties.lasting_fits.Goals as goal

pub returns : goal.returns
returns c = lasting_fits
