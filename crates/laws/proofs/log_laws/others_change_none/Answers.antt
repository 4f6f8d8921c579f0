use Rattle.laws.proofs.LogSteps.{others_none}
use Rattle.laws.proofs.log_laws.others_change_none.Goals as goal

pub returns : goal.returns
returns c = others_none
