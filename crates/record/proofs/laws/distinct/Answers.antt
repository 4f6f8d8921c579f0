use Rattle.record.proofs.Distinct.{marks_same, headers_same, contents-same}
use Rattle.record.proofs.laws.distinct.Goals as goal

pub returns : goal.returns
returns c = record { marks = marks_same; headers = headers_same; entries = contents-same }
