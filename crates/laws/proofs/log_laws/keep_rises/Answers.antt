use Rattle.laws.proofs.LogCuts.{keep_rises}
use Rattle.laws.proofs.log_laws.keep_rises.Goals as goal

pub returns : goal.returns
returns c = keep_rises
