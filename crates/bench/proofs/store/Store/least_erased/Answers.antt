use Rattle.std.proofs.Common.{ℕ, ap, ◌∙◌, arith}
use Rattle.std.specs.Prelude.{unwrap_or}
use Rattle.bench.specs.Held.{limit}
use Rattle.bench.specs.Store.{held, least}
use Rattle.bench.proofs.Tallies.{least_of}
use Rattle.bench.proofs.store.Store.least_erased.Goals as goal

pub returns : goal.returns
returns c =
    let is = c.unwrap_or.ensures ∙ ap (λ o. unwrap_or o limit) c.least_of.ensures in
    is ∙ least_of c.cells.result.now (held c.args.self.now).block c.cells.ensures.each (omega (arith, is, c.unwrap_or.type_inv))
    ∙ ap (λ (m : ℕ). least m (held c.args.self.now).block) c.cells.ensures.long
