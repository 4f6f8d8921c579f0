use Rattle.record.specs.Marks.{bytes_of}
use Rattle.std.proofs.Common.{rules}
use Rattle.record.proofs.Decode.{read_back}
use Rattle.record.proofs.Distinct.{marks_same}
use Rattle.record.proofs.laws.mark_round_trip.Goals as goal

pub returns : goal.returns
returns c = read_back bytes_of marks_same c.args.mark _ c.from_bytes.result (search rules) c.from_bytes.ensures
