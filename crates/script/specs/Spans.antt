-- A tag and a range of pages, as text. Assumes nothing.
use Rattle.std.specs.Prelude.{ℕ, ◌^◌, ◌<◌, List, ◌++◌}
use Rattle.script.specs.declared.spans.Span.{Span}
use Rattle.script.specs.Fields.{field_text}

-- three fields
abbrev pub span_text : Span → List ℕ
span_text s = field_text s.tag ++ (field_text s.from ++ field_text s.many)

-- the fields within their types
abbrev pub SpanFits : Span → Type 0
SpanFits s = (s.tag < 256) × (s.from < 2 ^ 32) × (s.many < 2 ^ 32)
