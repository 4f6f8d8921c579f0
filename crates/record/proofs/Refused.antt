-- Where a part can't be read, nothing is written as the whole. Assumes nothing.
use Rattle.std.proofs.Common.{◌≡◌, ℕ, Some, None, Option, sym, ap, ◌∙◌, arith}
use Rattle.record.specs.declared.numbers.BlockIndex.{BlockIndex}
use Rattle.record.specs.declared.numbers.PageIndex.{PageIndex}
use Rattle.record.specs.declared.numbers.SectorNumber.{SectorNumber}
use Rattle.record.specs.declared.numbers.TableNumber.{TableNumber}
use Rattle.record.specs.declared.numbers.RecordCount.{RecordCount}
use Rattle.record.specs.declared.marks.Content.{Content}
use Rattle.record.specs.declared.marks.Content.TheVariants.{Data, Table, Seal}
use Rattle.record.specs.declared.marks.Mark.{Mark}
use Rattle.record.specs.declared.marks.Mark.TheVariants.{Header, Record, Void}
use Rattle.record.specs.declared.headers.Predecessor.{Predecessor}
use Rattle.record.specs.declared.headers.HeaderData.{HeaderData}
use Rattle.record.specs.declared.tags.Kind.{Kind}
use Rattle.record.specs.declared.tags.Kind.TheVariants as kind
use Rattle.record.specs.declared.tags.Tag.{Tag}
use Rattle.record.specs.declared.tags.Fields.{Fields}
use Rattle.record.specs.declared.tags.HeaderFields.{HeaderFields}
use Rattle.record.specs.Contents.{code_of, tag_of}
use Rattle.record.specs.Marks.{block_field, fields_of}
use Rattle.record.specs.Headers.{joined, data_fields}

-- neither none nor a block
pub no_block : (n : ℕ) → (n ≡ 0xffff_ffff → ⊥) → ((b : BlockIndex) → n ≡ b.index → ⊥) → (o : Option BlockIndex) → n ≡ block_field o → ⊥
no_block n none range (Some b) e = range b e
no_block n none range None e = none e

-- tags that are the same have the same kind
code : {s t : Tag} → s ≡ t → s.kind ≡ t.kind
code e = ap (λ (x : Tag). x.kind) e

-- no kind has the number
pub no_kind : (t : Tag) → ((k : Kind) → t.kind ≡ code_of k → ⊥) → (c : Content) → t ≡ tag_of c → ⊥
no_kind t none (Data o s) e = none kind.Data (code e)
no_kind t none (Table o p) e = none kind.Table (code e)
no_kind t none (Seal o) e = none kind.Seal (code e)

pub no_mark : (f : Fields) → ((k : Kind) → f.tag.kind ≡ code_of k → ⊥) → (m : Mark) → f ≡ fields_of m → ⊥
no_mark f none (Header h) e = none kind.Header (ap (λ (x : Fields). x.tag.kind) e)
no_mark f none (Record r) e = no_kind f.tag none r.content (ap (λ (x : Fields). x.tag) e)
no_mark f none (Void v) e = none kind.Void (ap (λ (x : Fields). x.tag.kind) e)

-- no sector has the place
pub no_sector : (t : Tag) → t.kind ≡ code_of kind.Data → ((s : SectorNumber) → t.place ≡ s.number → ⊥) → (c : Content) → t ≡ tag_of c → ⊥
no_sector t k range (Data o s) e = range s (ap (λ (x : Tag). x.place) e)
no_sector t k range (Table o p) e = absurd (omega (arith, code e, k))
no_sector t k range (Seal o) e = absurd (omega (arith, code e, k))

-- no page of the table has the place
pub no_table : (t : Tag) → t.kind ≡ code_of kind.Table → ((p : TableNumber) → t.place ≡ p.number → ⊥) → (c : Content) → t ≡ tag_of c → ⊥
no_table t k range (Data o s) e = absurd (omega (arith, code e, k))
no_table t k range (Table o p) e = range p (ap (λ (x : Tag). x.place) e)
no_table t k range (Seal o) e = absurd (omega (arith, code e, k))

-- a record's kind isn't that of a header
record_kind : (c : Content) → (tag_of c).kind ≡ 1 → ⊥
record_kind (Data o s) e = omega arith
record_kind (Table o p) e = omega arith
record_kind (Seal o) e = omega arith

-- no page of a block is the one that commits the header
pub no_commit : (f : Fields) → f.tag.kind ≡ code_of kind.Header → ((p : PageIndex) → f.tag.commit ≡ p.index → ⊥) → (m : Mark) → f ≡ fields_of m → ⊥
no_commit f k range (Header h) e = range h.commit (ap (λ (x : Fields). x.tag.commit) e)
no_commit f k range (Record r) e = absurd (record_kind r.content (sym (ap (λ (x : Fields). x.tag.kind) e) ∙ k))
no_commit f k range (Void v) e = absurd (omega (arith, ap (λ (x : Fields). x.tag.kind) e, k))

-- neither none nor a block is the predecessor
joined_block : (h : HeaderData) (p : Option Predecessor) (n : ℕ) → ((o : Option BlockIndex) → n ≡ block_field o → ⊥) → n ≡ (joined h p).block → ⊥
joined_block h (Some p) n range e = range (Some p.block) e
joined_block h None n range e = range None e

pub no_predecessor : (f : HeaderFields) → ((o : Option BlockIndex) → f.block ≡ block_field o → ⊥) → (h : HeaderData) → f ≡ data_fields h → ⊥
no_predecessor f range h e = joined_block h h.predecessor f.block range (ap (λ (x : HeaderFields). x.block) e)

-- so many records are in no block
joined_count : (h : HeaderData) (p : Option Predecessor) (b : BlockIndex) (n : ℕ) → ((c : RecordCount) → n ≡ c.count → ⊥) → b.index ≡ (joined h p).block → n ≡ (joined h p).records → ⊥
joined_count h (Some p) b n range i e = range p.records e
joined_count h None b n range i e = omega (arith, b.range, i)

pub no_count : (f : HeaderFields) (b : BlockIndex) → f.block ≡ b.index → ((c : RecordCount) → f.records ≡ c.count → ⊥) → (h : HeaderData) → f ≡ data_fields h → ⊥
no_count f b i range h e = joined_count h h.predecessor b f.records range (sym i ∙ ap (λ (x : HeaderFields). x.block) e) (ap (λ (x : HeaderFields). x.records) e)
