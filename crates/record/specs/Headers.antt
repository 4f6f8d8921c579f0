-- The data of a header page: 40 bytes, and 8 bytes for each record of the predecessor that counts. Assumes nothing.
use Rattle.std.specs.Prelude.{ℕ, ◌+◌, ◌*◌, List, ◌++◌, take, drop, Some, None, Option}
use Rattle.words.specs.Words.{little}
use Rattle.record.specs.declared.headers.Predecessor.{Predecessor}
use Rattle.record.specs.declared.headers.HeaderData.{HeaderData}
use Rattle.record.specs.declared.marks.Content.{Content}
use Rattle.record.specs.declared.tags.HeaderFields.{HeaderFields}
use Rattle.record.specs.Contents.{tag_of}
use Rattle.record.specs.Marks.{tag_bytes}

-- a predecessor, or a block of all ones
abbrev pub joined : HeaderData → Option Predecessor → HeaderFields
joined h (Some p) = record { first = h.first.index; number = p.number.number; tail = h.tail.index; keep = h.keep.index; block = p.block.index; records = p.records.count }
joined h None = record { first = h.first.index; number = 0; tail = h.tail.index; keep = h.keep.index; block = 0xffff_ffff; records = 0 }

abbrev pub data_fields : HeaderData → HeaderFields
data_fields h = joined h h.predecessor

-- the fields at 0, 8, 16, 24, 32 and 36
unfoldable pub header_field_bytes : HeaderFields → List ℕ
header_field_bytes f = little 8 f.first ++ (little 8 f.number ++ (little 8 f.tail ++ (little 8 f.keep ++ (little 4 f.block ++ little 4 f.records))))

-- the bytes of a header's fixed part
abbrev pub header_bytes : HeaderData → List ℕ
header_bytes h = header_field_bytes (data_fields h)

-- the bytes of entry i
unfoldable pub entry_at : List ℕ → ℕ → List ℕ
entry_at xs i = take 8 (drop (40 + 8 * i) xs)

-- the bytes of an entry: the first 8 of the record's mark
abbrev pub content_bytes : Content → List ℕ
content_bytes c = tag_bytes (tag_of c)
