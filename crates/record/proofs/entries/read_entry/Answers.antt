use Rattle.std.proofs.Common.{◌+◌, ◌*◌, sym, rules}
use Rattle.words.proofs.Words.{part}
use Rattle.record.specs.Contents.{tag_of}
use Rattle.record.specs.Marks.{tag_bytes}
use Rattle.record.specs.Headers.{entry_at}
use Rattle.record.proofs.Decode.{through}
use Rattle.record.proofs.MarkBytes.{tags_same}
use Rattle.record.proofs.entries.read_entry.Goals as goal

pub returns : goal.returns
unfolding entry_at
returns c =
    through tag_of tag_bytes tags_same _ c.read_tag.result c.try_from.result (sym (part (40 + 8 * c.args.i) 8 c.args.page.now (tag_bytes c.read_tag.result) (search rules))) c.try_from.ensures
