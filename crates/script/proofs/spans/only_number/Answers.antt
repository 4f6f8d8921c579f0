use Rattle.std.proofs.Common.{◌^◌, ◌<◌}
use Rattle.script.specs.Fields.{field_text}
use Rattle.script.proofs.Readings.{whole_never, whole_alone}
use Rattle.script.proofs.spans.only_number.Goals as goal

pub returns-in_err-field : goal.returns-in_err-field
returns-in_err-field c = rw c.from_residual.ensures (whole_never field_text (λ n. n < 2 ^ 32) _ c.in_err-field.ensures)

pub returns : goal.returns
returns c = whole_alone field_text (λ n. n < 2 ^ 32) _ _ _ c.in_ok-field.ensures _ c.alone.ensures
