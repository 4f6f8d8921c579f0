use Rattle.laws.proofs.LogSteps.{append_one}
use Rattle.laws.proofs.log_laws.append_changes_one.Goals as goal

pub returns : goal.returns
returns c = append_one
