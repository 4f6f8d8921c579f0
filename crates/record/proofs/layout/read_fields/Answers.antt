use Rattle.std.proofs.Common.{rules}
use Rattle.record.proofs.MarkBytes.{fields_read}
use Rattle.record.proofs.layout.read_fields.Goals as goal

pub returns : goal.returns
returns c =
    fields_read c.args.bytes.now _ c.fits-bytes c.told-bytes c.read_tag.ensures
    (search rules) (search rules) (search rules) (search rules)
