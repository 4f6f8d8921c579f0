use Rattle.laws.proofs.LogSteps.{tails_nothing}
use Rattle.laws.proofs.log_laws.tails_say_nothing.Goals as goal

pub returns : goal.returns
returns c = tails_nothing
