use Rattle.laws.proofs.WearLaws.{taken_in_turn}
use Rattle.laws.proofs.wear_laws.taken_in_turn.Goals as goal

pub returns : goal.returns
returns c = taken_in_turn
