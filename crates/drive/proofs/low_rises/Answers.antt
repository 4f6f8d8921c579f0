use Rattle.drive.proofs.Runs.{low_rises, one_each}
use Rattle.drive.proofs.low_rises.Goals as goal

pub returns : goal.returns
returns c = (low_rises, one_each)
