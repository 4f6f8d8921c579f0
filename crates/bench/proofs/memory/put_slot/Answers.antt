use Rattle.std.proofs.Common.{length, ap, arith}
use Rattle.bench.proofs.Slots.{slot_here, slot_other}
use Rattle.bench.proofs.memory.put_slot.Goals as goal

pub returns : goal.returns
returns c =
    let is = c.copy_from_slice.ensures.after in
    record {
      here = slot_here c.args.place _ c.args.bytes.now c.copy_from_slice.new.self c.args.from.now (omega arith) is (omega arith);
      others = λ i ne. slot_other c.args.place _ c.args.bytes.now c.copy_from_slice.new.self i (omega arith) (omega arith) (omega (arith, ap length is)) ne;
    }
