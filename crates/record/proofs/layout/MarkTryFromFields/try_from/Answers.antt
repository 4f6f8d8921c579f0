use Rattle.std.proofs.Common.{rules}
use Rattle.record.specs.Marks.{fields_of}
use Rattle.record.proofs.Decode.{refused}
use Rattle.record.proofs.Refused.{no_mark, no_commit}
use Rattle.record.proofs.layout.MarkTryFromFields.try_from.Goals as goal

pub returns-in_err-try_from : goal.returns-in_err-try_from
returns-in_err-try_from c = let r = c.from_residual in refused fields_of c.args.f r.result r.ensures.0 (no_mark c.args.f c.in_err-try_from.ensures)

pub returns-in_err-try_into-in-Header-eq0-default : goal.returns-in_err-try_into-in-Header-eq0-default
returns-in_err-try_into-in-Header-eq0-default c =
    let r = c.from_residual-in_err-try_into-in-Header-eq0-default in
    refused fields_of c.args.f r.result r.ensures.0 (no_commit c.args.f (search rules) c.in_err-try_into-in-Header-eq0-default.ensures)
