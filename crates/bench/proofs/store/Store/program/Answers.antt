use Rattle.std.proofs.Common.{◌+◌, ◌-◌, ◌*◌, Bool, set, sym, ◌∙◌, subst, arith}
use Rattle.std.proofs.lemmas.List.{length-set, get_or-set_same, get_or-set_other}
use Rattle.drive.specs.Nand.{Programming}
use Rattle.bench.specs.declared.memory.PageState.TheVariants.{Blank}
use Rattle.bench.specs.Held.{nand_of, untouched}
use Rattle.bench.specs.Store.{held}
use Rattle.bench.proofs.Space.{inside}
use Rattle.bench.proofs.Sheet.{program_by}
use Rattle.bench.proofs.store.Store.program.Goals as goal

pub bounds-self-place : goal.bounds-self-place
bounds-self-place c = omega (arith, (inside _ _ _ _ _ _ c.requires.asked.1).state, c.requires.asked.2)

pub filled-cell-requires : goal.filled-cell-requires
filled-cell-requires c = omega (arith, (inside _ _ _ _ _ _ c.requires.asked.1).pages_low, c.requires.asked.2)

pub put_slot-requires : goal.put_slot-requires
put_slot-requires c = (omega (arith, (inside _ _ _ _ _ _ c.requires.asked.1).byte, c.requires.asked.2), c.requires.asked.6)

pub returns : goal.returns
returns c =
    let s = c.args.self.now in
    let low = inside _ _ _ _ _ _ c.requires.asked.1 in
    let k = c.args.block in
    let place = k * s.geometry.pages + c.args.page in
    let bytes = c.put_slot.new.bytes in
    let states = set s.memory.states.now place c.filled.result in
    let cells = set s.memory.cells.now k c.filled-cell.result in
    subst (λ (b : Bool). Programming (held s) k c.args.page c.args.from.now c.args.answer (nand_of bytes states cells s.geometry.blocks s.geometry.pages b (s.left - 1))) (sym c.still_on-self.ensures)
    (program_by c.args.answer s.memory.bytes.now bytes s.memory.states.now states s.memory.cells.now cells s.geometry.blocks s.geometry.pages k c.args.page s.left s.on c.args.from.now
    c.requires.asked c.requires.on c.requires.failure c.put_slot.auto.bytes (length-set s.memory.states.now place c.filled.result) (length-set s.memory.cells.now k c.filled-cell.result)
    c.put_slot.ensures.others (λ i ne. get_or-set_other s.memory.states.now place i c.filled.result Blank ne) (λ j ne. get_or-set_other s.memory.cells.now k j c.filled-cell.result untouched ne)
    c.put_slot.ensures.here (get_or-set_same s.memory.states.now place c.filled.result Blank (omega (arith, low.state, c.requires.asked.2)) ∙ c.filled.ensures)
    (get_or-set_same s.memory.cells.now k c.filled-cell.result untouched low.cell ∙ c.filled-cell.ensures))
