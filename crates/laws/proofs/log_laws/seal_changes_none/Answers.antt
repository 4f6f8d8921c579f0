use Rattle.laws.proofs.LogSteps.{seal_none}
use Rattle.laws.proofs.log_laws.seal_changes_none.Goals as goal

pub returns : goal.returns
returns c = seal_none
