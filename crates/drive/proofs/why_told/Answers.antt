use Rattle.drive.proofs.Examples.{why_told}
use Rattle.drive.proofs.why_told.Goals as goal

pub returns : goal.returns
returns c = why_told
