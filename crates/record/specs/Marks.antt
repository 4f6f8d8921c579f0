-- The 32 bytes of a mark. Assumes nothing.
use Rattle.std.specs.Prelude.{ℕ, List, ◌∷◌, ◌++◌, Some, None, Option}
use Rattle.words.specs.Words.{little}
use Rattle.record.specs.declared.numbers.BlockIndex.{BlockIndex}
use Rattle.record.specs.declared.marks.HeaderMark.{HeaderMark}
use Rattle.record.specs.declared.marks.RecordMark.{RecordMark}
use Rattle.record.specs.declared.marks.VoidMark.{VoidMark}
use Rattle.record.specs.declared.marks.Mark.{Mark}
use Rattle.record.specs.declared.marks.Mark.TheVariants.{Header, Record, Void}
use Rattle.record.specs.declared.tags.Kind.TheVariants as kind
use Rattle.record.specs.declared.tags.Tag.{Tag}
use Rattle.record.specs.declared.tags.Fields.{Fields}
use Rattle.record.specs.Contents.{code_of, bare, tag_of}

-- a block, or all ones for none
abbrev pub block_field : Option BlockIndex → ℕ
block_field (Some b) = b.index
block_field None = 0xffff_ffff

-- the fields of each kind of mark
abbrev pub header_fields : HeaderMark → Fields
header_fields h = record { tag = record { kind = code_of kind.Header; flag = 0; commit = h.commit.index; place = block_field h.predecessor }; number = h.number.number; tail = h.tail.index; bad_blocks = h.bad_blocks; version = 1 }

abbrev pub record_fields : RecordMark → Fields
record_fields r = record { tag = tag_of r.content; number = r.index.index; tail = r.tail.index; bad_blocks = 0; version = 1 }

abbrev pub void_fields : VoidMark → Fields
void_fields v = record { tag = bare kind.Void; number = v.number.number; tail = v.tail.index; bad_blocks = 0; version = 1 }

abbrev pub fields_of : Mark → Fields
fields_of (Header h) = header_fields h
fields_of (Record r) = record_fields r
fields_of (Void v) = void_fields v

-- the fields at 0, 1, 2 and 4
unfoldable pub tag_bytes : Tag → List ℕ
tag_bytes t = t.kind ∷ t.flag ∷ (little 2 t.commit ++ little 4 t.place)

-- the tag, and the fields at 8, 16, 24 and 28
unfoldable pub field_bytes : Fields → List ℕ
field_bytes f = tag_bytes f.tag ++ (little 8 f.number ++ (little 8 f.tail ++ (little 4 f.bad_blocks ++ little 4 f.version)))

-- the bytes of a mark
abbrev pub bytes_of : Mark → List ℕ
bytes_of m = field_bytes (fields_of m)
