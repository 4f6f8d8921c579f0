use Rattle.std.proofs.Common.{ap, ◌∙◌}
use Rattle.record.specs.Headers.{data_fields}
use Rattle.record.specs.Marks.{block_field}
use Rattle.record.proofs.Decode.{refused}
use Rattle.record.proofs.Refused.{no_predecessor, no_count}
use Rattle.record.proofs.entries.HeaderDataTryFromHeaderFields.try_from.Goals as goal

pub returns-in_err-block : goal.returns-in_err-block
returns-in_err-block c = refused data_fields c.args.f c.from_residual.result c.from_residual.ensures.0 (no_predecessor c.args.f c.in_err-block.ensures)

pub returns-in_err-try_into-in-Some : goal.returns-in_err-try_into-in-Some
returns-in_err-try_into-in-Some c =
    let r = c.from_residual-in_err-try_into-in-Some in
    refused data_fields c.args.f r.result r.ensures.0 (no_count c.args.f c.in-Some.block (c.in_ok-block.ensures ∙ ap block_field c.in-Some.is) c.in_err-try_into-in-Some.ensures)
