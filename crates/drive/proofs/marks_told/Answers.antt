use Rattle.codec.proofs.Marks.{mark-length}
use Rattle.drive.proofs.Bridge.{marks_told_here}
use Rattle.drive.proofs.marks_told.Goals as goal

pub returns : goal.returns
returns c = (mark-length, marks_told_here)
