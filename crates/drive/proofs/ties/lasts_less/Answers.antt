use Rattle.drive.proofs.TiesSteps.{lasts_less}
use Rattle.drive.proofs.ties.lasts_less.Goals as goal

pub returns : goal.returns
returns c = lasts_less
