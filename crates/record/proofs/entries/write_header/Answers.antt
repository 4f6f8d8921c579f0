use Rattle.std.proofs.Common.{◌≡◌, length, ap, ◌∙◌}
use Rattle.std.proofs.lemmas.List.{take_at, drop_at}
use Rattle.record.specs.Headers.{header_field_bytes}
use Rattle.record.proofs.HeaderBytes.{length_header}
use Rattle.record.proofs.entries.write_header.Goals as goal

pub returns : goal.returns
returns c =
    let h = c.write_fields.new.out in
    let l : length h ≡ 40 = ap length c.write_fields.ensures ∙ length_header c.from.result in
    record { here = take_at h _ 40 l ∙ c.write_fields.ensures ∙ ap header_field_bytes c.from.ensures; rest = drop_at h _ 40 l }
