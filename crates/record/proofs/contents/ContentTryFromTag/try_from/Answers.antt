use Rattle.std.proofs.Common.{rules}
use Rattle.record.specs.Contents.{tag_of}
use Rattle.record.proofs.Decode.{refused}
use Rattle.record.proofs.Refused.{no_kind, no_sector, no_table}
use Rattle.record.proofs.contents.ContentTryFromTag.try_from.Goals as goal

pub returns-in_err-try_from : goal.returns-in_err-try_from
returns-in_err-try_from c =
    let r = c.from_residual in
    refused tag_of c.args.tag r.result r.ensures.0 (no_kind c.args.tag c.in_err-try_from.ensures)

pub returns-in_err-try_into-in-Data-eq0-2 : goal.returns-in_err-try_into-in-Data-eq0-2
returns-in_err-try_into-in-Data-eq0-2 c =
    let r = c.from_residual-in_err-try_into-in-Data-eq0-2 in
    refused tag_of c.args.tag r.result r.ensures.0 (no_sector c.args.tag (search rules) c.in_err-try_into-in-Data-eq0-2.ensures)

pub returns-in_err-try_into-in-Table-eq0-2 : goal.returns-in_err-try_into-in-Table-eq0-2
returns-in_err-try_into-in-Table-eq0-2 c =
    let r = c.from_residual-in_err-try_into-in-Table-eq0-2 in
    refused tag_of c.args.tag r.result r.ensures.0 (no_table c.args.tag (search rules) c.in_err-try_into-in-Table-eq0-2.ensures)
