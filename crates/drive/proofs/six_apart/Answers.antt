use Rattle.drive.proofs.Examples.{six_apart}
use Rattle.drive.proofs.six_apart.Goals as goal

pub returns : goal.returns
returns c = six_apart
