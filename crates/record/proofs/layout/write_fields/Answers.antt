use Rattle.std.proofs.Common.{◌≡◌, length, ap, ◌∙◌, arith, rules}
use Rattle.std.proofs.lemmas.List.{take_at}
use Rattle.record.proofs.Rows.{over_front}
use Rattle.record.proofs.MarkBytes.{fields_written, length_tag}
use Rattle.record.proofs.layout.write_fields.Goals as goal

pub returns : goal.returns
returns c =
    let t = c.write_tag.new.out in
    let l : length t ≡ 8 = ap length c.write_tag.ensures ∙ length_tag c.args.f.tag in
    let n = over_front 8 c.args.out.now t (omega arith) l in
    fields_written c.args.f _ c.write.new.s c.write-2.new.s c.write-3.new.s c.write-4.new.s (omega arith) (take_at t _ 8 l ∙ c.write_tag.ensures)
    c.write.ensures.front (search rules) (search rules) (search rules)
