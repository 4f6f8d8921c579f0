use Rattle.script.specs.Spans.{span_text, SpanFits}
use Rattle.script.proofs.Readings.{whole_never, whole_alone}
use Rattle.script.proofs.spans.only_span.Goals as goal

pub returns-in_err-span_fields : goal.returns-in_err-span_fields
returns-in_err-span_fields c = rw c.from_residual.ensures (whole_never span_text SpanFits _ c.in_err-span_fields.ensures)

pub returns : goal.returns
returns c = whole_alone span_text SpanFits _ _ _ c.in_ok-span_fields.ensures _ c.alone.ensures
