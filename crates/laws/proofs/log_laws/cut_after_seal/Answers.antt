use Rattle.laws.proofs.LogCuts.{cut_after_seal}
use Rattle.laws.proofs.log_laws.cut_after_seal.Goals as goal

pub returns : goal.returns
returns c = cut_after_seal
