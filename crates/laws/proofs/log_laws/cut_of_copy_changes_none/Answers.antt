use Rattle.laws.proofs.LogCuts.{cut_of_copy}
use Rattle.laws.proofs.log_laws.cut_of_copy_changes_none.Goals as goal

pub returns : goal.returns
returns c = cut_of_copy
