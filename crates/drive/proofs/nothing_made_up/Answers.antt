use Rattle.drive.proofs.Runs.{nothing_made_up}
use Rattle.drive.proofs.nothing_made_up.Goals as goal

pub returns : goal.returns
returns c = nothing_made_up
