use Rattle.laws.proofs.LogSpace.{spare_stays_free}
use Rattle.laws.proofs.space_laws.spare_stays_free.Goals as goal

pub returns : goal.returns
returns c = spare_stays_free
