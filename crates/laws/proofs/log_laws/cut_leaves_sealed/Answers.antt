use Rattle.laws.proofs.LogCuts.{cut_leaves_sealed}
use Rattle.laws.proofs.log_laws.cut_leaves_sealed.Goals as goal

pub returns : goal.returns
returns c = cut_leaves_sealed
