use Rattle.std.proofs.Common.{List, length, true, set, get_or, refl, ap, ◌∙◌, arith}
use Rattle.std.proofs.lemmas.List.{get_or-replicate, get_or-set_same, get_or-set_other}
use Rattle.bench.specs.declared.memory.BlockCell.{BlockCell}
use Rattle.bench.specs.Held.{untouched, cell_at}
use Rattle.bench.specs.Made.{marked}
use Rattle.bench.proofs.Fresh.{listed_none, mark_more}
use Rattle.bench.proofs.make.mark.Goals as goal

pub loop-block-init : goal.loop-block-init
loop-block-init c = λ k h.
    let all = c.fill.ensures.after (λ y e. e) in
    ap (λ (xs : List BlockCell). cell_at xs k) all ∙ get_or-replicate (length c.args.cells.now) k c.untouched.result untouched (omega (arith, ap length all))
    ∙ c.untouched.ensures ∙ ap marked (listed_none k)

pub loop-block-preserved : goal.loop-block-preserved
loop-block-preserved c =
    let bad = c.args.bad.now in
    let old = c.loop-block.cells in
    let b = get_or bad c.loop-block.block-index 0 in
    let cell = record (cell_at old b) { bad = true } in
    mark_more bad c.loop-block.block-index b (length c.fill.new.self) old (set old b cell) c.loop-block-test.true refl
    c.loop-block.invariant (get_or-set_same old b cell untouched c.if-block-cells.false ∙ ap (λ (x : BlockCell). record x { bad = true }) (c.loop-block.invariant b (omega arith))) (λ j ne. get_or-set_other old b j cell untouched ne)
