use Rattle.std.proofs.Common.{ℕ, ap, ◌∙◌}
use Rattle.std.specs.Prelude.{unwrap_or}
use Rattle.bench.specs.Store.{held, most}
use Rattle.bench.proofs.Tallies.{most_of}
use Rattle.bench.proofs.store.Store.most_erased.Goals as goal

pub returns : goal.returns
returns c =
    c.unwrap_or.ensures ∙ ap (λ o. unwrap_or o 0) c.most_of.ensures ∙ most_of c.cells.result.now (held c.args.self.now).block c.cells.ensures.each
    ∙ ap (λ (m : ℕ). most m (held c.args.self.now).block) c.cells.ensures.long
