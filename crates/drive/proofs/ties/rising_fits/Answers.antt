use Rattle.drive.proofs.TiesSteps.{rising_fits}
use Rattle.drive.proofs.ties.rising_fits.Goals as goal

pub returns : goal.returns
returns c = rising_fits
