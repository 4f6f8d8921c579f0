use Rattle.laws.proofs.RecoveryLaws.{failed_below}
use Rattle.laws.proofs.recovery_laws.failed_below.Goals as goal

pub returns : goal.returns
returns c = failed_below
