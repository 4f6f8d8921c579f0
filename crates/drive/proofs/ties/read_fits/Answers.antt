use Rattle.drive.proofs.TiesSteps.{read_fits}
use Rattle.drive.proofs.ties.read_fits.Goals as goal

pub returns : goal.returns
returns c = read_fits
