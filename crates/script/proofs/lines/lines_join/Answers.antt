use Rattle.script.proofs.Joins.{lines_join}
use Rattle.script.proofs.lines.lines_join.Goals as goal

pub returns : goal.returns
returns c = lines_join
