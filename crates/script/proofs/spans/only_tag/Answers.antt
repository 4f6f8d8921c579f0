use Rattle.std.proofs.Common.{◌<◌}
use Rattle.script.specs.Fields.{field_text}
use Rattle.script.proofs.Readings.{whole_never, whole_alone}
use Rattle.script.proofs.spans.only_tag.Goals as goal

pub returns-in_err-tag_field : goal.returns-in_err-tag_field
returns-in_err-tag_field c = rw c.from_residual.ensures (whole_never field_text (λ n. n < 256) _ c.in_err-tag_field.ensures)

pub returns : goal.returns
returns c = whole_alone field_text (λ n. n < 256) _ _ _ c.in_ok-tag_field.ensures _ c.alone.ensures
