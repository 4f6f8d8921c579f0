use Rattle.record.specs.Headers.{data_fields, header_field_bytes}
use Rattle.record.proofs.Decode.{through}
use Rattle.record.proofs.HeaderBytes.{header_fields_same}
use Rattle.record.proofs.entries.read_header.Goals as goal

pub returns : goal.returns
returns c = through data_fields header_field_bytes header_fields_same _ c.read_fields.result c.try_from.result c.read_fields.ensures c.try_from.ensures
