use Rattle.record.specs.Headers.{header_bytes}
use Rattle.std.proofs.Common.{rules}
use Rattle.record.proofs.Decode.{read_back}
use Rattle.record.proofs.Distinct.{headers_same}
use Rattle.record.proofs.laws.header_round_trip.Goals as goal

pub returns : goal.returns
returns c = read_back header_bytes headers_same c.args.header _ c.read_header.result (search rules) c.read_header.ensures
