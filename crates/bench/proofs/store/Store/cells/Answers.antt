use Rattle.std.proofs.Common.{◌≡◌, ℕ, ◌≤◌, List, length, take, sym, ◌∙◌, rules, arith}
use Rattle.bench.specs.declared.memory.BlockCell.{BlockCell}
use Rattle.bench.proofs.Space.{cells_enough}
use Rattle.bench.proofs.store.Store.cells.Goals as goal

enough : (n : ℕ) (cells : List BlockCell) → n ≤ length cells → n ≡ length (take n cells)
enough n cells h = search rules

pub slice_bounds-result-end-2 : goal.slice_bounds-result-end-2
slice_bounds-result-end-2 c =
    let s = c.args.self.now in
    enough c.blocks-2.result s.memory.cells.now
    (omega (arith, c.blocks-2.ensures.is, cells_enough (length s.memory.bytes.now) (length s.memory.states.now) (length s.memory.cells.now) s.geometry.blocks s.geometry.pages))

pub returns-clause-long : goal.returns-clause-long
returns-clause-long c = sym (slice_bounds-result-end-2 c) ∙ c.blocks-2.ensures.is
