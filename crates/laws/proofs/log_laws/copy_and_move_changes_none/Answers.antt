use Rattle.laws.proofs.LogSteps.{copy_move_none}
use Rattle.laws.proofs.log_laws.copy_and_move_changes_none.Goals as goal

pub returns : goal.returns
returns c = copy_move_none
