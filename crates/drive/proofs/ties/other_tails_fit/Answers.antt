use Rattle.drive.proofs.TiesSteps.{other_tails_fit}
use Rattle.drive.proofs.ties.other_tails_fit.Goals as goal

pub returns : goal.returns
returns c = other_tails_fit
