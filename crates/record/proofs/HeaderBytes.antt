-- The bytes of a header's data. Assumes nothing.
use Rattle.std.proofs.Common.{◌≡◌, ℕ, ◌+◌, ◌*◌, ◌<◌, ◌≤◌, ◌⊎◌, List, ◌++◌, length, get_or, take, drop, sym, refl, ◌∙◌, ap₂, inl, inr, append_assoc, arith, length-append}
use denote.Struct.Record.{values_one}
use borrow.Rule.Slice.PartMut.{put_mid}
use Rattle.std.proofs.lemmas.List.{append-nil, drop_all, take_all}
use Rattle.std.proofs.lemmas.Slice.{take-put_mid_below}
use Rattle.std.proofs.lemmas.Bool.{cases_lt}
use Rattle.words.specs.Words.{little, value_at}
use Rattle.words.proofs.Words.{little-same, length-little, mid_here, mid_kept}
use Rattle.record.specs.declared.tags.HeaderFields.{HeaderFields}
use Rattle.record.specs.contracts.tags.HeaderFields as fields
use Rattle.record.specs.Headers.{header_field_bytes, entry_at}
use Rattle.record.proofs.Rows.{first, peel}

pub header_fields_same : (f g : HeaderFields) → header_field_bytes f ≡ header_field_bytes g → f ≡ g
unfolding header_field_bytes
header_fields_same f g e =
    let i = first 7 f.first g.first _ _ e in
    let n = first 7 f.number g.number _ _ i.1 in
    let t = first 7 f.tail g.tail _ _ n.1 in
    let k = first 7 f.keep g.keep _ _ t.1 in
    let b = first 3 f.block g.block _ _ k.1 in
    let r = little-same 3 f.records g.records b.1 in
    values_one fields.struct fields.the_propositions f g (cc (i.0, n.0, t.0, k.0, b.0))

pub header_read : (xs : List ℕ) (f : HeaderFields) → ((k : ℕ) → get_or xs k 0 < 256) → length xs ≡ 40
    → f.first ≡ value_at 8 xs 0 → f.number ≡ value_at 8 xs 8 → f.tail ≡ value_at 8 xs 16 → f.keep ≡ value_at 8 xs 24 → f.block ≡ value_at 4 xs 32 → f.records ≡ value_at 4 xs 36
    → xs ≡ header_field_bytes f
unfolding header_field_bytes
header_read xs f low l ei en et ek eb er =
    let a = peel 7 0 8 xs f.first low (omega arith) refl ei in
    let b = peel 7 8 16 xs f.number low (omega arith) refl en in
    let c = peel 7 16 24 xs f.tail low (omega arith) refl et in
    let d = peel 7 24 32 xs f.keep low (omega arith) refl ek in
    let e = peel 3 32 36 xs f.block low (omega arith) refl eb in
    let g = peel 3 36 40 xs f.records low (omega arith) refl er in
    let j = drop_all 40 xs (omega arith) in
    let z = append-nil (little 4 f.records) in
    cc

pub header_written : (f : HeaderFields) (n o p q r s : List ℕ) → length s ≡ 40 → take 8 n ≡ little 8 f.first
    → take 16 o ≡ take 8 n ++ little 8 f.number → take 24 p ≡ take 16 o ++ little 8 f.tail → take 32 q ≡ take 24 p ++ little 8 f.keep
    → take 36 r ≡ take 32 q ++ little 4 f.block → take 40 s ≡ take 36 r ++ little 4 f.records → s ≡ header_field_bytes f
unfolding header_field_bytes
header_written f n o p q r s l en eo ep eq er es =
    let a = take_all 40 s (omega arith) in
    let all : s ≡ ((((little 8 f.first ++ little 8 f.number) ++ little 8 f.tail) ++ little 8 f.keep) ++ little 4 f.block) ++ little 4 f.records = cc in
    all ∙ simp append_assoc

pub length_header : (f : HeaderFields) → length (header_field_bytes f) ≡ 40
unfolding header_field_bytes
length_header f = simp (length-append, length-little)

-- ---- an entry that is written over

module _ (i p k : ℕ) (xs ys : List ℕ) (h : 40 + 8 * i + 8 ≤ length xs) (at : p ≡ 40 + 8 * i) (e : k ≡ 8) (l : length ys ≡ 8) where
  pub entry_here : entry_at (put_mid p k xs ys) i ≡ ys
  unfolding entry_at
  entry_here = ap₂ (λ n j. take n (drop j (put_mid p k xs ys))) (sym e) (sym at) ∙ mid_here p k xs ys (omega arith) (l ∙ sym e)

  pub entry_kept : (j : ℕ) → (j ≡ i → ⊥) → entry_at (put_mid p k xs ys) j ≡ entry_at xs j
  unfolding entry_at
  entry_kept j ne =
      let side : (40 + 8 * j + 8 ≤ p) ⊎ (p + k ≤ 40 + 8 * j) = elim (cases_lt j i) [ inl b ↦ inl (omega arith) | inr b ↦ inr (omega arith) ] in
      mid_kept p k xs ys (omega arith) (l ∙ sym e) 8 (40 + 8 * j) side

  pub fixed_kept : take 40 (put_mid p k xs ys) ≡ take 40 xs
  fixed_kept = take-put_mid_below p k xs ys 40 (omega arith) (omega arith)
