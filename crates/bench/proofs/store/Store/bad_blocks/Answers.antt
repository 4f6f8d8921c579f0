use Rattle.std.proofs.Common.{ℕ, ap, ◌∙◌}
use Rattle.bench.specs.Store.{held}
use Rattle.drive.specs.Nand.{bads}
use Rattle.bench.proofs.Tallies.{bads_of}
use Rattle.bench.proofs.store.Store.bad_blocks.Goals as goal

pub returns-clause-count : goal.returns-clause-count
returns-clause-count c =
    c.count_bad.ensures ∙ bads_of c.cells.result.now (held c.args.self.now).block c.cells.ensures.each ∙ ap (λ (m : ℕ). bads m (held c.args.self.now).block) c.cells.ensures.long
