use Rattle.laws.proofs.LogCuts.{cut_since_seal}
use Rattle.laws.proofs.log_laws.cut_since_seal.Goals as goal

pub returns : goal.returns
returns c = cut_since_seal
