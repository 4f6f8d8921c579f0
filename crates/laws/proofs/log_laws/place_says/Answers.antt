use Rattle.laws.proofs.LogSteps.{place_says}
use Rattle.laws.proofs.log_laws.place_says.Goals as goal

pub returns : goal.returns
returns c = place_says
