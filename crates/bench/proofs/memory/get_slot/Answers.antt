use Rattle.std.proofs.Common.{◌∙◌}
use Rattle.bench.proofs.Slots.{slot_part}
use Rattle.bench.proofs.memory.get_slot.Goals as goal

pub returns : goal.returns
returns c = c.copy_from_slice.ensures.after ∙ slot_part c.args.place c.args.bytes.now
