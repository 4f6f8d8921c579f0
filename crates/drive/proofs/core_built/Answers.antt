use Rattle.drive.proofs.Built.{core_built}
use Rattle.drive.proofs.core_built.Goals as goal

pub returns : goal.returns
returns c = core_built
