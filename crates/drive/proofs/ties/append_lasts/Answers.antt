use Rattle.drive.proofs.TiesSteps.{append_lasts}
use Rattle.drive.proofs.ties.append_lasts.Goals as goal

pub returns : goal.returns
returns c = append_lasts
