use Rattle.std.proofs.Common.{◌≡◌, Err, ap, ◌∙◌, rules}
use Rattle.refusals.specs.Refusals.{answered}
use Rattle.drive.specs.Promise.{cmd_of}
use Rattle.drive.proofs.Verdicts.{names, turned_away}
use Rattle.drive.proofs.queue.Queue.accept.Goals as goal

pub returns-in_err-admit-clause-told : goal.returns-in_err-admit-clause-told
returns-in_err-admit-clause-told c h bs u =
    let why = c.in_err-admit.field-0.0 in
    let told : c.from_residual.result ≡ Err why = search rules in
    ap answered told ∙ turned_away c.args.worn_out c.args.sectors h c.args.tag (cmd_of c.args.a bs) why (c.in_err-admit.ensures.told h bs (names c.args.self.now c.tags.result h c.tags.ensures u))
