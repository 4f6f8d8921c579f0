use Rattle.drive.proofs.TiesSteps.{taken_lasts}
use Rattle.drive.proofs.ties.taken_lasts.Goals as goal

pub returns : goal.returns
returns c = taken_lasts
