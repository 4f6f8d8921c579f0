use Rattle.laws.proofs.LogSteps.{move_none}
use Rattle.laws.proofs.log_laws.move_changes_none.Goals as goal

pub returns : goal.returns
returns c = move_none
