use Rattle.laws.proofs.LogSteps.{seals_nothing}
use Rattle.laws.proofs.log_laws.seals_say_nothing.Goals as goal

pub returns : goal.returns
returns c = seals_nothing
