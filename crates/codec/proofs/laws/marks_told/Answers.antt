use Rattle.codec.proofs.Marks.{mark-length, marks_told}
use Rattle.codec.proofs.laws.marks_told.Goals as goal

pub returns : goal.returns
returns c = record { long = mark-length; told = marks_told }
