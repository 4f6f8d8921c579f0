use Rattle.std.proofs.Common.{arith, rules}
use Rattle.record.proofs.HeaderBytes.{header_written}
use Rattle.record.proofs.entries.write_fields.Goals as goal

pub returns : goal.returns
returns c =
    header_written c.args.f c.write.new.s c.write-2.new.s c.write-3.new.s c.write-4.new.s c.write-5.new.s c.write-6.new.s (omega arith)
    (search rules) (search rules) (search rules) (search rules) (search rules) (search rules)
