-- The numbers that stand for a record's content. Assumes nothing.
use Rattle.std.specs.Prelude.{ℕ}
use Rattle.record.specs.declared.marks.Content.{Content}
use Rattle.record.specs.declared.marks.Content.TheVariants.{Data, Table, Seal}
use Rattle.record.specs.declared.marks.Origin.{Origin}
use Rattle.record.specs.declared.marks.Origin.TheVariants.{Fresh, Copied}
use Rattle.record.specs.declared.marks.SealOrigin.{SealOrigin}
use Rattle.record.specs.declared.marks.SealOrigin.TheVariants.{Flush, Recovery}
use Rattle.record.specs.declared.tags.Kind.{Kind}
use Rattle.record.specs.declared.tags.Kind.TheVariants as kind
use Rattle.record.specs.declared.tags.Tag.{Tag}

-- the number of a kind
abbrev pub code_of : Kind → ℕ
code_of kind.Header = 1
code_of kind.Data = 2
code_of kind.Table = 3
code_of kind.Seal = 4
code_of kind.Void = 5

-- fresh or copied
abbrev pub flag_of : Origin → ℕ
flag_of Fresh = 0
flag_of Copied = 1

-- by a flush or by a recovery
abbrev pub seal_flag_of : SealOrigin → ℕ
seal_flag_of Flush = 0
seal_flag_of Recovery = 2

-- a kind, and nothing else
abbrev pub bare : Kind → Tag
bare k = record { kind = code_of k; flag = 0; commit = 0; place = 0 }

-- kind, flag, and the sector or the page of the table
abbrev pub tag_of : Content → Tag
tag_of (Data o s) = record { kind = code_of kind.Data; flag = flag_of o; commit = 0; place = s.number }
tag_of (Table o p) = record { kind = code_of kind.Table; flag = flag_of o; commit = 0; place = p.number }
tag_of (Seal o) = record { kind = code_of kind.Seal; flag = seal_flag_of o; commit = 0; place = 0 }
