use Rattle.std.proofs.Common.{ℕ, ◌+◌, ◌*◌, List, sym, ap, ◌∙◌, arith}
use Rattle.bench.specs.Held.{state_at, shaped}
use Rattle.bench.proofs.Space.{inside}
use Rattle.bench.proofs.Sheet.{page_is, not_blank}
use Rattle.bench.proofs.store.Store.fetch.Goals as goal

pub bounds-self-place : goal.bounds-self-place
bounds-self-place c = omega (arith, (inside _ _ _ _ _ _ c.requires.within.0).state, c.requires.within.1)

pub get_slot-requires : goal.get_slot-requires
get_slot-requires c = (omega (arith, (inside _ _ _ _ _ _ c.requires.within.0).byte, c.requires.within.1), c.requires.lent)

pub returns-in-Written : goal.returns-in-Written
returns-in-Written c =
    let s = c.args.self.now in
    let state = state_at s.memory.states.now (c.args.block * s.geometry.pages + c.args.page) in
    record {
      is = page_is s.memory.bytes.now s.memory.states.now s.memory.cells.now s.geometry.blocks s.geometry.pages c.args.block c.args.page s.left s.on c.requires.within.0 c.requires.within.1
          ∙ ap (λ (x : List ℕ). shaped state x) (sym c.get_slot.ensures);
      shows = λ e. absurd (not_blank state c.in-Written.is e);
    }
