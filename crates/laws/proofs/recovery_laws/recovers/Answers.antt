use Rattle.laws.proofs.RecoveryLaws.{recovers}
use Rattle.laws.proofs.recovery_laws.recovers.Goals as goal

pub returns : goal.returns
returns c = recovers
