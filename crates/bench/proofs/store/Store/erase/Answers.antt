use Rattle.std.proofs.Common.{◌+◌, ◌-◌, ◌*◌, Bool, set, sym, ◌∙◌, subst}
use borrow.Rule.Slice.PartMut.{put_mid}
use Rattle.std.proofs.lemmas.List.{length-set, get_or-set_same, get_or-set_other}
use Rattle.drive.specs.Nand.{Erasing}
use Rattle.bench.specs.Held.{nand_of, untouched}
use Rattle.bench.specs.Store.{held}
use Rattle.bench.proofs.Space.{inside}
use Rattle.bench.proofs.Rows.{row_long, row_here, row_other}
use Rattle.bench.proofs.Sheet.{erase_by, unspent}
use Rattle.bench.proofs.store.Store.erase.Goals as goal

pub worn-cell-requires : goal.worn-cell-requires
worn-cell-requires c =
    let s = c.args.self.now in
    unspent s.memory.bytes.now s.memory.states.now s.memory.cells.now s.geometry.blocks s.geometry.pages c.args.block s.left s.on c.requires.asked

pub returns : goal.returns
returns c =
    let s = c.args.self.now in
    let low = inside _ _ _ _ _ _ c.requires.asked.1 in
    let k = c.args.block in
    let w = s.geometry.pages in
    let old = s.memory.states.now in
    let states = put_mid (k * w) (k * w + w - k * w) old c.wear.new.states in
    let cells = set s.memory.cells.now k c.worn-cell.result in
    subst (λ (b : Bool). Erasing (held s) k c.args.answer (nand_of s.memory.bytes.now states cells s.geometry.blocks w b (s.left - 1))) (sym c.still_on-self.ensures)
    (erase_by c.args.answer s.memory.bytes.now old states s.memory.cells.now cells s.geometry.blocks w k s.left s.on c.requires.asked c.requires.on c.requires.failure c.requires.early
    (row_long c.args.answer (k * w) w old c.wear.new.states low.state c.wear.ensures) (length-set s.memory.cells.now k c.worn-cell.result)
    (row_other c.args.answer (k * w) w old c.wear.new.states low.state c.wear.ensures) (λ j ne. get_or-set_other s.memory.cells.now k j c.worn-cell.result untouched ne)
    (row_here c.args.answer (k * w) w old c.wear.new.states low.state c.wear.ensures) (get_or-set_same s.memory.cells.now k c.worn-cell.result untouched low.cell ∙ c.worn-cell.ensures))
