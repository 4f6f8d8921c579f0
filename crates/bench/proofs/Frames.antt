-- A chip of which one block changed. Assumes nothing.
use Rattle.std.proofs.Common.{◌≡◌, ℕ, ◌+◌, ◌-◌, ◌*◌, ◌<◌, ◌≤◌, Bool, cond, eqb, ltb, ◌⊎◌, List, length, sym, ap, ◌∙◌, ap₂, inl, inr, arith}
use mathlib.Core.Path.{fun_ext}
use Rattle.std.proofs.lemmas.Bool.{cases_Bool, cases_eq, cases_lt, cond-true, cond-false, lt-ltb, ltb-true, eq-eqb, ne_eqb}
use Rattle.drive.specs.Nand.{Nand, Block, Page, Blank}
use Rattle.bench.specs.declared.memory.PageState.{PageState}
use Rattle.bench.specs.declared.memory.BlockCell.{BlockCell}
use Rattle.bench.specs.Held.{spaced, page_at, cell_at, block_with, block_from, no_block, nand_of}
use Rattle.bench.proofs.Space.{row_end}

-- the chip n after an ask that put f of it in the place of block k
abbrev pub after : ℕ → (Block → Block) → Bool → Nand → Nand
after k f on n = record { blocks = n.blocks; pages = n.pages; block = λ j. cond (eqb j k) (f (n.block k)) (n.block j); on = on; left = n.left - 1 }

-- memory before and after: it is as long as it was, and other blocks are as they were
pub record Frame (bytes bytes' : List ℕ) (states states' : List PageState) (cells cells' : List BlockCell) (pages k : ℕ) : Type 0 where
  pub bytes_long : length bytes' ≡ length bytes
  pub states_long : length states' ≡ length states
  pub cells_long : length cells' ≡ length cells
  pub cells_kept : (j : ℕ) → (j ≡ k → ⊥) → cell_at cells' j ≡ cell_at cells j
  pub pages_kept : (i : ℕ) → (i < k * pages) ⊎ (k * pages + pages ≤ i) → page_at bytes' states' i ≡ page_at bytes states i

-- a page of another block stands outside a block's places
other_row : (j k w q : ℕ) → q < w → (j ≡ k → ⊥) → (j * w + q < k * w) ⊎ (k * w + w ≤ j * w + q)
other_row j k w q h ne =
    elim (cases_lt j k) [
      | inl lt ↦ inl (omega (arith, row_end j k w lt))
      | inr ge ↦ inr (omega (arith, row_end k j w (omega arith)))
    ]

module _ (bytes bytes' : List ℕ) (states states' : List PageState) (cells cells' : List BlockCell) (blocks pages k left : ℕ) (on on' : Bool) (f : Block → Block)
    (frame : Frame bytes bytes' states states' cells cells' pages k) (low : k < blocks)
    (here : block_from bytes' states' pages (k * pages) (cell_at cells' k) ≡ f (block_from bytes states pages (k * pages) (cell_at cells k))) where
  abbrev was : ℕ → Block
  was j = (nand_of bytes states cells blocks pages on left).block j

  other : (j : ℕ) → (j ≡ k → ⊥) → block_from bytes' states' pages (j * pages) (cell_at cells' j) ≡ block_from bytes states pages (j * pages) (cell_at cells j)
  other j ne =
      let page : (q : ℕ) → cond (ltb q pages) (page_at bytes' states' (j * pages + q)) Blank ≡ cond (ltb q pages) (page_at bytes states (j * pages + q)) Blank =
      λ q. elim (cases_Bool (ltb q pages)) [
        | inl e ↦ ap (λ (x : Page). cond (ltb q pages) x Blank) (frame.pages_kept (j * pages + q) (other_row j k pages q (ltb-true q pages e) ne))
        | inr e ↦ cond-false (ltb q pages) _ _ e ∙ sym (cond-false (ltb q pages) _ _ e)
      ] in
      ap₂ (λ (g : ℕ → Page) (c : BlockCell). block_with g c) (fun_ext page) (frame.cells_kept j ne)

  block-after : (j : ℕ) → (nand_of bytes' states' cells' blocks pages on' (left - 1)).block j ≡ cond (eqb j k) (f (was k)) (was j)
  block-after j =
      elim (cases_eq j k) [
        | inl e ↦
            let now : cond (ltb k blocks) (block_from bytes' states' pages (k * pages) (cell_at cells' k)) no_block ≡ f (was k) =
            cond-true (ltb k blocks) _ _ (lt-ltb k blocks low) ∙ here ∙ ap f (sym (cond-true (ltb k blocks) _ _ (lt-ltb k blocks low))) in
            ap (λ (i : ℕ). cond (ltb i blocks) (block_from bytes' states' pages (i * pages) (cell_at cells' i)) no_block) e ∙ now ∙ sym (cond-true (eqb j k) _ _ (eq-eqb j k e))
        | inr ne ↦ ap (λ (b : Block). cond (ltb j blocks) b no_block) (other j ne) ∙ sym (cond-false (eqb j k) _ _ (ne_eqb j k ne))
      ]

  space-after : spaced (length bytes') (length states') (length cells') blocks pages ≡ spaced (length bytes) (length states) (length cells) blocks pages
  space-after = rw (frame.bytes_long, frame.states_long, frame.cells_long)

  pub changed : nand_of bytes' states' cells' blocks pages on' (left - 1) ≡ after k f on' (nand_of bytes states cells blocks pages on left)
  changed =
      ap₂ (λ (n : Bool) (g : ℕ → Block). made n g) space-after (fun_ext block-after)
    where
      made : Bool → (ℕ → Block) → Nand
      made b g = record { blocks = cond b blocks 0; pages = pages; block = g; on = on'; left = left - 1 }
