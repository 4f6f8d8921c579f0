use Rattle.codec.proofs.Mending.{mends}
use Rattle.codec.proofs.laws.mends.Goals as goal

pub returns : goal.returns
returns c = mends
