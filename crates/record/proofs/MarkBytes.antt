-- The bytes of a mark. Assumes nothing.
use Rattle.std.proofs.Common.{◌≡◌, ℕ, ◌<◌, List, [], ◌∷◌, ◌++◌, length, get_or, take, drop, sym, refl, ap, ◌∙◌, append_assoc, arith, length-append}
use denote.Struct.Record.{values_one}
use Rattle.std.proofs.lemmas.List.{take_at, drop_at, drop_more, append-nil, drop_all, take_all, take-append-drop}
use Rattle.words.specs.Words.{little, value_at}
use Rattle.words.proofs.Words.{little-same, length-little}
use Rattle.record.specs.declared.tags.Tag.{Tag}
use Rattle.record.specs.declared.tags.Fields.{Fields}
use Rattle.record.specs.contracts.tags.Tag as tag
use Rattle.record.specs.contracts.tags.Fields as fields
use Rattle.record.specs.Marks.{tag_bytes, field_bytes}
use Rattle.record.proofs.Rows.{first, peel}

-- ---- tags

pub tags_same : (s t : Tag) → tag_bytes s ≡ tag_bytes t → s ≡ t
unfolding tag_bytes
tags_same s t e =
    let k : s.kind ≡ t.kind = ap (λ (xs : List ℕ). get_or xs 0 0) e in
    let l : s.flag ≡ t.flag = ap (λ (xs : List ℕ). get_or xs 1 0) e in
    let c = first 1 s.commit t.commit (little 4 s.place) (little 4 t.place) (ap (drop 2) e) in
    let p = little-same 3 s.place t.place c.1 in
    values_one tag.struct tag.the_propositions s t (cc c.0)

pub tag_read : (xs : List ℕ) (t : Tag) → ((k : ℕ) → get_or xs k 0 < 256) → length xs ≡ 8 → t.kind ≡ get_or xs 0 0 → t.flag ≡ get_or xs 1 0 → t.commit ≡ value_at 2 xs 2 → t.place ≡ value_at 4 xs 4
    → xs ≡ tag_bytes t
unfolding tag_bytes
tag_read xs t low l ek ef ec ep =
    let a = drop_more xs 0 0 (omega arith) in
    let b = drop_more xs 1 0 (omega arith) in
    let c = peel 1 2 4 xs t.commit low (omega arith) refl ec in
    let d = peel 3 4 8 xs t.place low (omega arith) refl ep in
    let e = drop_all 8 xs (omega arith) in
    let z = append-nil (little 4 t.place) in
    cc

pub tag_written : (t : Tag) (o p q : List ℕ) → length q ≡ 8 → take 2 o ≡ t.kind ∷ t.flag ∷ [] → take 4 p ≡ take 2 o ++ little 2 t.commit → take 8 q ≡ take 4 p ++ little 4 t.place
    → q ≡ tag_bytes t
unfolding tag_bytes
tag_written t o p q l eo ep eq =
    let a = take_all 8 q (omega arith) in
    let all : q ≡ ((t.kind ∷ t.flag ∷ []) ++ little 2 t.commit) ++ little 4 t.place = cc in
    all ∙ simp append_assoc

pub length_tag : (t : Tag) → length (tag_bytes t) ≡ 8
unfolding tag_bytes
length_tag t = omega (arith, length-append (little 2 t.commit) (little 4 t.place), length-little 2 t.commit, length-little 4 t.place)

-- ---- all fields

pub fields_same : (f g : Fields) → field_bytes f ≡ field_bytes g → f ≡ g
unfolding field_bytes
fields_same f g e =
    let lf = length_tag f.tag in
    let lg = length_tag g.tag in
    let rf = little 8 f.number ++ (little 8 f.tail ++ (little 4 f.bad_blocks ++ little 4 f.version)) in
    let rg = little 8 g.number ++ (little 8 g.tail ++ (little 4 g.bad_blocks ++ little 4 g.version)) in
    let s = tags_same f.tag g.tag (sym (take_at (tag_bytes f.tag) rf 8 lf) ∙ ap (take 8) e ∙ take_at (tag_bytes g.tag) rg 8 lg) in
    let r = sym (drop_at (tag_bytes f.tag) rf 8 lf) ∙ ap (drop 8) e ∙ drop_at (tag_bytes g.tag) rg 8 lg in
    let n = first 7 f.number g.number _ _ r in
    let t = first 7 f.tail g.tail _ _ n.1 in
    let b = first 3 f.bad_blocks g.bad_blocks _ _ t.1 in
    let v = little-same 3 f.version g.version b.1 in
    values_one fields.struct fields.the_propositions f g (cc (n.0, t.0, b.0))

pub fields_read : (xs : List ℕ) (f : Fields) → ((k : ℕ) → get_or xs k 0 < 256) → length xs ≡ 32 → take 8 xs ≡ tag_bytes f.tag
    → f.number ≡ value_at 8 xs 8 → f.tail ≡ value_at 8 xs 16 → f.bad_blocks ≡ value_at 4 xs 24 → f.version ≡ value_at 4 xs 28 → xs ≡ field_bytes f
unfolding field_bytes
fields_read xs f low l eg en et eb ev =
    let a = take-append-drop 8 xs in
    let e = peel 7 8 16 xs f.number low (omega arith) refl en in
    let g = peel 7 16 24 xs f.tail low (omega arith) refl et in
    let h = peel 3 24 28 xs f.bad_blocks low (omega arith) refl eb in
    let i = peel 3 28 32 xs f.version low (omega arith) refl ev in
    let j = drop_all 32 xs (omega arith) in
    let z = append-nil (little 4 f.version) in
    cc

pub fields_written : (f : Fields) (o p q r s : List ℕ) → length s ≡ 32 → take 8 o ≡ tag_bytes f.tag
    → take 16 p ≡ take 8 o ++ little 8 f.number → take 24 q ≡ take 16 p ++ little 8 f.tail → take 28 r ≡ take 24 q ++ little 4 f.bad_blocks → take 32 s ≡ take 28 r ++ little 4 f.version
    → s ≡ field_bytes f
unfolding field_bytes
fields_written f o p q r s l eo ep eq er es =
    let a = take_all 32 s (omega arith) in
    let all : s ≡ (((tag_bytes f.tag ++ little 8 f.number) ++ little 8 f.tail) ++ little 4 f.bad_blocks) ++ little 4 f.version = cc in
    all ∙ simp append_assoc
