use Rattle.std.proofs.Common.{rules}
use Rattle.record.specs.Marks.{block_field}
use Rattle.record.proofs.Decode.{refused}
use Rattle.record.proofs.Refused.{no_block}
use Rattle.record.proofs.layout.block_of.Goals as goal

pub returns-in_err-try_into : goal.returns-in_err-try_into
returns-in_err-try_into c = refused block_field c.args.field c.from_residual.result c.from_residual.ensures.0 (no_block c.args.field (search rules) c.in_err-try_into.ensures)
