use Rattle.laws.proofs.WearLaws.{wear_bounded}
use Rattle.laws.proofs.wear_laws.wear_bounded.Goals as goal

pub returns : goal.returns
returns c = wear_bounded
