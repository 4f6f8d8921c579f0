use Rattle.laws.proofs.LogSpace.{log_fits}
use Rattle.laws.proofs.space_laws.log_fits.Goals as goal

pub returns : goal.returns
returns c = log_fits
