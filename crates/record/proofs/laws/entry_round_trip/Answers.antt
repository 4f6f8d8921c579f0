use Rattle.record.specs.Headers.{content_bytes}
use Rattle.std.proofs.Common.{rules}
use Rattle.record.proofs.Decode.{read_back}
use Rattle.record.proofs.Distinct.{contents-same}
use Rattle.record.proofs.laws.entry_round_trip.Goals as goal

pub returns : goal.returns
returns c = read_back content_bytes contents-same c.args.content _ c.read_entry.result (search rules) c.read_entry.ensures
