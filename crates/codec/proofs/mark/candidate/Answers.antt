use Rattle.std.proofs.Common.{take, drop, rules}
use Rattle.std.proofs.lemmas.Bool.{both_ways}
use Rattle.std.proofs.lemmas.Slice.Eq.{slice_eq-Decides}
use Rattle.codec.proofs.Writing.{mark_then, mark_else}
use Rattle.codec.proofs.mark.candidate.Goals as goal
use Rattle.std.proofs.lemmas.Bool.Decides.{Decides-eqb}

pub returns-then-eq-clause-only : goal.returns-then-eq-clause-only
returns-then-eq-clause-only c =
    let u = c.args.area.now in
    mark_then u _ ((slice_eq-Decides Decides-eqb (take 32 u) (take 32 (drop 32 u)) c.eq.result c.eq.ensures).0 c.if-eq.true) (search rules)

pub returns-else-eq-clause-only : goal.returns-else-eq-clause-only
returns-else-eq-clause-only c =
    let u = c.args.area.now in
    mark_else u _
    (λ e. both_ways c.eq.result c.if-eq.false ((slice_eq-Decides Decides-eqb (take 32 u) (take 32 (drop 32 u)) c.eq.result c.eq.ensures).1 e)) (search rules)
