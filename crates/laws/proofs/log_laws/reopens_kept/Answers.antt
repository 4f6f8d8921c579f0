use Rattle.laws.proofs.LogCuts.{reopens_kept}
use Rattle.laws.proofs.log_laws.reopens_kept.Goals as goal

pub returns : goal.returns
returns c = reopens_kept
