use Rattle.record.specs.Marks.{fields_of, field_bytes}
use Rattle.record.proofs.Decode.{through}
use Rattle.record.proofs.MarkBytes.{fields_same}
use Rattle.record.proofs.layout.from_bytes.Goals as goal

pub returns : goal.returns
returns c = through fields_of field_bytes fields_same c.args.bytes.now c.read_fields.result c.try_from.result c.read_fields.ensures c.try_from.ensures
