use mir.Facts.{Fits-lt-pow}
use Rattle.std.proofs.Common.{rules}
use Rattle.record.proofs.MarkBytes.{tag_read}
use Rattle.record.proofs.layout.read_tag.Goals as goal

pub returns : goal.returns
returns c = tag_read c.args.bytes.now _ (λ k. Fits-lt-pow (c.type_inv.bytes k)) c.requires (search rules) (search rules) (search rules) (search rules)
