use Rattle.laws.proofs.LogCuts.{keep_suffices}
use Rattle.laws.proofs.log_laws.keep_suffices.Goals as goal

pub returns : goal.returns
returns c = keep_suffices
