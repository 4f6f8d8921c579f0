use Rattle.std.proofs.Common.{ℕ, set, arith, length-set, rules}
use Rattle.record.proofs.Rows.{two_set}
use Rattle.record.proofs.MarkBytes.{tag_written}
use Rattle.record.proofs.layout.write_tag.Goals as goal

pub returns : goal.returns
returns c =
    let o = c.args.out.now in
    tag_written c.args.tag (set (set o 0 _) 1 _) c.write.new.s c.write-2.new.s (omega (arith, length-set {A = ℕ})) (two_set o _ _ c.args.tag.kind c.args.tag.flag (omega arith) (search rules) (search rules))
    c.write.ensures.front (search rules)
