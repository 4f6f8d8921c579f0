use Rattle.laws.proofs.RecoveryLaws.{one_cut_more}
use Rattle.laws.proofs.recovery_laws.one_cut_more.Goals as goal

pub returns : goal.returns
returns c = one_cut_more
