use Rattle.std.proofs.Common.{◌≡◌, length, ap, ◌∙◌, arith}
use Rattle.record.specs.Marks.{tag_bytes}
use Rattle.record.proofs.MarkBytes.{length_tag}
use Rattle.record.proofs.HeaderBytes.{entry_here, entry_kept, fixed_kept}
use Rattle.record.proofs.entries.write_entry.Goals as goal

pub returns : goal.returns
returns c =
    let i = c.args.i in
    let xs = c.args.page.now in
    let ys = c.write_tag.new.out in
    let l : length ys ≡ 8 = ap length c.write_tag.ensures ∙ length_tag c.from.result in
    record {
      here = entry_here i _ _ xs ys c.requires (omega arith) (omega arith) l ∙ c.write_tag.ensures ∙ ap tag_bytes c.from.ensures;
      others = entry_kept i _ _ xs ys c.requires (omega arith) (omega arith) l;
      fixed = fixed_kept i _ _ xs ys c.requires (omega arith) (omega arith) l;
    }
