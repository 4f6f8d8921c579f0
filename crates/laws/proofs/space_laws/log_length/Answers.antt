use Rattle.laws.proofs.LogSpace.{log_length}
use Rattle.laws.proofs.space_laws.log_length.Goals as goal

pub returns : goal.returns
returns c = log_length
