use Rattle.laws.proofs.LogSteps.{copy_none}
use Rattle.laws.proofs.log_laws.copy_changes_none.Goals as goal

pub returns : goal.returns
returns c = copy_none
