use Rattle.std.proofs.Common.{sym, ◌∙◌}
use Rattle.bench.proofs.Space.{space_parts}
use Rattle.bench.proofs.store.Store.blocks.Goals as goal

pub returns-then-has_space-clause-low : goal.returns-then-has_space-clause-low
returns-then-has_space-clause-low c = (space_parts _ _ _ c.args.self.now.geometry.blocks _ (sym c.has_space.ensures ∙ c.if-has_space.true)).blocks_few
