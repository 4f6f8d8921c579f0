use Rattle.laws.proofs.WearLaws.{worn_evenly}
use Rattle.laws.proofs.wear_laws.worn_evenly.Goals as goal

pub returns : goal.returns
returns c = worn_evenly
