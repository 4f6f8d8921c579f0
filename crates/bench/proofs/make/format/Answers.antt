use Rattle.std.proofs.Common.{rules, arith}
use Rattle.bench.proofs.Space.{space_parts}
use Rattle.bench.proofs.Fresh.{formatted, overfull}
use Rattle.bench.proofs.make.format.Goals as goal

pub slice_bounds-fill-end : goal.slice_bounds-fill-end
slice_bounds-fill-end c = let h = (space_parts _ _ _ _ _ c.requires.space).states_fit in search rules

pub slice_bounds-mark-end : goal.slice_bounds-mark-end
slice_bounds-mark-end c = let h = (space_parts _ _ _ _ _ c.requires.space).cells_fit in search rules

pub returns : goal.returns
returns c =
    let s = c.args.store.now in
    formatted s.memory.bytes.now s.memory.states.now c.fill.new.self s.memory.cells.now c.mark.new.cells s.geometry.blocks s.geometry.pages s.left s.on c.args.bad.now
    c.requires.space (c.fill.ensures.after (λ y e. e)) c.mark.auto.cells c.in_ok-mark.ensures c.requires.sheet c.requires.on (omega (arith, c.bad_blocks.ensures.count))

pub returns-then-bad_blocks-blocks : goal.returns-then-bad_blocks-blocks
returns-then-bad_blocks-blocks c =
    let s = c.args.store.now in
    overfull s.memory.bytes.now s.memory.states.now c.fill.new.self s.memory.cells.now c.mark.new.cells s.geometry.blocks s.geometry.pages s.left s.on c.args.bad.now
    c.requires.space (c.fill.ensures.after (λ y e. e)) c.mark.auto.cells c.in_ok-mark.ensures (omega (arith, c.bad_blocks.ensures.count))
