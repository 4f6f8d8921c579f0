use Rattle.drive.proofs.TiesSteps.{cut_needs_seal}
use Rattle.drive.proofs.ties.cut_needs_seal.Goals as goal

pub returns : goal.returns
returns c = cut_needs_seal
