-- No two marks, headers or entries have the same bytes. Assumes nothing.
use Rattle.std.proofs.Common.{◌≡◌, Some, None, Option, sym, refl, ap, ◌∙◌, ap₂, arith}
use denote.Struct.Record.{values_one}
use Rattle.record.specs.declared.numbers.BlockIndex.{BlockIndex}
use Rattle.record.specs.declared.numbers.RecordIndex.{RecordIndex}
use Rattle.record.specs.declared.numbers.BlockNumber.{BlockNumber}
use Rattle.record.specs.declared.marks.Origin.{Origin}
use Rattle.record.specs.declared.marks.Origin.TheVariants.{Fresh, Copied}
use Rattle.record.specs.declared.marks.SealOrigin.{SealOrigin}
use Rattle.record.specs.declared.marks.SealOrigin.TheVariants.{Flush, Recovery}
use Rattle.record.specs.declared.marks.Content.{Content}
use Rattle.record.specs.declared.marks.Content.TheVariants.{Data, Table, Seal}
use Rattle.record.specs.declared.marks.HeaderMark.{HeaderMark}
use Rattle.record.specs.declared.marks.RecordMark.{RecordMark}
use Rattle.record.specs.declared.marks.VoidMark.{VoidMark}
use Rattle.record.specs.declared.marks.Mark.{Mark}
use Rattle.record.specs.declared.marks.Mark.TheVariants.{Header, Record, Void}
use Rattle.record.specs.declared.headers.Predecessor.{Predecessor}
use Rattle.record.specs.declared.headers.HeaderData.{HeaderData}
use Rattle.record.specs.declared.tags.HeaderFields.{HeaderFields}
use Rattle.record.specs.declared.tags.Tag.{Tag}
use Rattle.record.specs.declared.tags.Fields.{Fields}
use Rattle.record.specs.contracts.numbers.BlockIndex as block
use Rattle.record.specs.contracts.numbers.PageIndex as page
use Rattle.record.specs.contracts.numbers.SectorNumber as sector
use Rattle.record.specs.contracts.numbers.TableNumber as table
use Rattle.record.specs.contracts.numbers.RecordIndex as index
use Rattle.record.specs.contracts.numbers.BlockNumber as number
use Rattle.record.specs.contracts.marks.HeaderMark as header
use Rattle.record.specs.contracts.marks.RecordMark as rec
use Rattle.record.specs.contracts.marks.VoidMark as void
use Rattle.record.specs.contracts.numbers.RecordCount as count
use Rattle.record.specs.contracts.headers.Predecessor as pred
use Rattle.record.specs.contracts.headers.HeaderData as head
use Rattle.record.specs.Decoding.{Distinct}
use Rattle.record.specs.Headers.{joined, data_fields, header_bytes, content_bytes}
use Rattle.record.specs.Contents.{flag_of, seal_flag_of, tag_of}
use Rattle.record.specs.Marks.{block_field, fields_of, bytes_of}
use Rattle.record.proofs.MarkBytes.{fields_same, tags_same}
use Rattle.record.proofs.HeaderBytes.{header_fields_same}

index_same : (a b : RecordIndex) → a.index ≡ b.index → a ≡ b
index_same a b e = values_one index.struct index.the_propositions a b (ap (λ n. (n, tt)) e)

number_same : (a b : BlockNumber) → a.number ≡ b.number → a ≡ b
number_same a b e = values_one number.struct number.the_propositions a b (ap (λ n. (n, tt)) e)

block_same : (a b : Option BlockIndex) → block_field a ≡ block_field b → a ≡ b
block_same (Some a) (Some b) e = ap Some (values_one block.struct block.the_propositions a b (ap (λ n. (n, tt)) e))
block_same (Some a) None e = absurd (omega (arith, a.range))
block_same None (Some b) e = absurd (omega (arith, b.range))
block_same None None e = refl

origin_same : (a b : Origin) → flag_of a ≡ flag_of b → a ≡ b
origin_same Fresh Fresh e = refl
origin_same Fresh Copied e = absurd (omega arith)
origin_same Copied Fresh e = absurd (omega arith)
origin_same Copied Copied e = refl

seal_same : (a b : SealOrigin) → seal_flag_of a ≡ seal_flag_of b → a ≡ b
seal_same Flush Flush e = refl
seal_same Flush Recovery e = absurd (omega arith)
seal_same Recovery Flush e = absurd (omega arith)
seal_same Recovery Recovery e = refl

kind : {s t : Tag} → s ≡ t → s.kind ≡ t.kind
kind e = ap (λ (x : Tag). x.kind) e

flag : {s t : Tag} → s ≡ t → s.flag ≡ t.flag
flag e = ap (λ (x : Tag). x.flag) e

place : {s t : Tag} → s ≡ t → s.place ≡ t.place
place e = ap (λ (x : Tag). x.place) e

content_same : (c d : Content) → tag_of c ≡ tag_of d → c ≡ d
content_same (Data o s) (Data p t) e = ap₂ Data (origin_same o p (flag e)) (values_one sector.struct sector.the_propositions s t (ap (λ n. (n, tt)) (place e)))
content_same (Data o s) (Table p t) e = absurd (omega (arith, kind e))
content_same (Data o s) (Seal p) e = absurd (omega (arith, kind e))
content_same (Table o s) (Data p t) e = absurd (omega (arith, kind e))
content_same (Table o s) (Table p t) e = ap₂ Table (origin_same o p (flag e)) (values_one table.struct table.the_propositions s t (ap (λ n. (n, tt)) (place e)))
content_same (Table o s) (Seal p) e = absurd (omega (arith, kind e))
content_same (Seal o) (Data p t) e = absurd (omega (arith, kind e))
content_same (Seal o) (Table p t) e = absurd (omega (arith, kind e))
content_same (Seal o) (Seal p) e = ap Seal (seal_same o p (flag e))

-- a record's kind is neither that of a header nor that of a void
record_kind : (c : Content) → ((tag_of c).kind ≡ 1 → ⊥) × ((tag_of c).kind ≡ 5 → ⊥)
record_kind (Data o s) = (λ e. omega arith, λ e. omega arith)
record_kind (Table o s) = (λ e. omega arith, λ e. omega arith)
record_kind (Seal o) = (λ e. omega arith, λ e. omega arith)

tag : {f g : Fields} → f ≡ g → f.tag ≡ g.tag
tag e = ap (λ (x : Fields). x.tag) e

header_same : (h i : HeaderMark) → fields_of (Header h) ≡ fields_of (Header i) → h ≡ i
header_same h i e =
    let c = values_one page.struct page.the_propositions h.commit i.commit (ap (λ (f : Fields). (f.tag.commit, tt)) e) in
    let p = block_same h.predecessor i.predecessor (place (tag e)) in
    let n = number_same h.number i.number (ap (λ (f : Fields). f.number) e) in
    let t = index_same h.tail i.tail (ap (λ (f : Fields). f.tail) e) in
    let b = ap (λ (f : Fields). f.bad_blocks) e in
    values_one header.struct header.the_propositions h i (cc)

record_same : (r s : RecordMark) → fields_of (Record r) ≡ fields_of (Record s) → r ≡ s
record_same r s e =
    let c = content_same r.content s.content (tag e) in
    let n = index_same r.index s.index (ap (λ (f : Fields). f.number) e) in
    let t = index_same r.tail s.tail (ap (λ (f : Fields). f.tail) e) in
    values_one rec.struct rec.the_propositions r s (cc)

void_same : (v w : VoidMark) → fields_of (Void v) ≡ fields_of (Void w) → v ≡ w
void_same v w e =
    let n = number_same v.number w.number (ap (λ (f : Fields). f.number) e) in
    let t = index_same v.tail w.tail (ap (λ (f : Fields). f.tail) e) in
    values_one void.struct void.the_propositions v w (cc)

mark_fields_same : (m n : Mark) → fields_of m ≡ fields_of n → m ≡ n
mark_fields_same (Header h) (Header i) e = ap Header (header_same h i e)
mark_fields_same (Header h) (Record r) e = absurd ((record_kind r.content).0 (sym (kind (tag e))))
mark_fields_same (Header h) (Void v) e = absurd (omega (arith, kind (tag e)))
mark_fields_same (Record r) (Header h) e = absurd ((record_kind r.content).0 (kind (tag e)))
mark_fields_same (Record r) (Record s) e = ap Record (record_same r s e)
mark_fields_same (Record r) (Void v) e = absurd ((record_kind r.content).1 (kind (tag e)))
mark_fields_same (Void v) (Header h) e = absurd (omega (arith, kind (tag e)))
mark_fields_same (Void v) (Record r) e = absurd ((record_kind r.content).1 (sym (kind (tag e))))
mark_fields_same (Void v) (Void w) e = ap Void (void_same v w e)

pub marks_same : Distinct bytes_of
marks_same m n e = mark_fields_same m n (fields_same (fields_of m) (fields_of n) e)

pub contents-same : Distinct content_bytes
contents-same c d e = content_same c d (tags_same (tag_of c) (tag_of d) e)

-- ---- headers

predecessor_same : (p q : Predecessor) → p.block.index ≡ q.block.index → p.number.number ≡ q.number.number → p.records.count ≡ q.records.count → p ≡ q
predecessor_same p q eb en er =
    let b = values_one block.struct block.the_propositions p.block q.block (ap (λ n. (n, tt)) eb) in
    let n = number_same p.number q.number en in
    let r = values_one count.struct count.the_propositions p.records q.records (ap (λ n. (n, tt)) er) in
    values_one pred.struct pred.the_propositions p q (cc)

joined_same : (h i : HeaderData) (p q : Option Predecessor) → joined h p ≡ joined i q → p ≡ q
joined_same h i (Some p) (Some q) e = ap Some (predecessor_same p q (ap (λ (f : HeaderFields). f.block) e) (ap (λ (f : HeaderFields). f.number) e) (ap (λ (f : HeaderFields). f.records) e))
joined_same h i (Some p) None e = absurd (omega (arith, p.block.range, ap (λ (f : HeaderFields). f.block) e))
joined_same h i None (Some q) e = absurd (omega (arith, q.block.range, ap (λ (f : HeaderFields). f.block) e))
joined_same h i None None e = refl

joined_parts : (h : HeaderData) (p : Option Predecessor) → ((joined h p).first ≡ h.first.index) × ((joined h p).tail ≡ h.tail.index) × ((joined h p).keep ≡ h.keep.index)
joined_parts h (Some p) = (refl, refl, refl)
joined_parts h None = (refl, refl, refl)

data_fields_same : (h i : HeaderData) → data_fields h ≡ data_fields i → h ≡ i
data_fields_same h i e =
    let a = joined_parts h h.predecessor in
    let b = joined_parts i i.predecessor in
    let f = index_same h.first i.first (sym a.0 ∙ ap (λ (f : HeaderFields). f.first) e ∙ b.0) in
    let p = joined_same h i h.predecessor i.predecessor e in
    let t = index_same h.tail i.tail (sym a.1 ∙ ap (λ (f : HeaderFields). f.tail) e ∙ b.1) in
    let k = index_same h.keep i.keep (sym a.2 ∙ ap (λ (f : HeaderFields). f.keep) e ∙ b.2) in
    values_one head.struct head.the_propositions h i (cc)

pub headers_same : Distinct header_bytes
headers_same h i e = data_fields_same h i (header_fields_same (data_fields h) (data_fields i) e)
