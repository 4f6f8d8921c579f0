use Rattle.std.proofs.Common.{◌≡◌, ℕ, None, arith, sym, ◌∙◌}
use Rattle.std.proofs.lemmas.Grind.{common_steps}
use Rattle.laws.proofs.LogSteps.{place_none}
use Rattle.drive.specs.Room.{placed}
use Rattle.drive.proofs.store.Store.find.Goals as goal

-- only 0 names no page
none_zero : (v : ℕ) → placed v ≡ None → v ≡ 0
none_zero v e = grind (arith, common_steps)

pub returns-then-sector-self-clause-nowhere : goal.returns-then-sector-self-clause-nowhere
returns-then-sector-self-clause-nowhere g c l t h e = place_none l c.args.sector (t c.args.sector h (none_zero _ (sym c.place_of.ensures ∙ e)))
