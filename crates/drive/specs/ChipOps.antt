-- What an ask leaves of the chip, by its answer.
-- Assumes nothing.
use Rattle.std.specs.Prelude.{◌≡◌, ℕ, ◌+◌, ◌<◌, true, false, T, ◌⊎◌, List, Some, None, Ok, Err, Option, Result}
use Rattle.drive.specs.Nand.{Nand, Written, Torn, Shows, put_block, put_page, broken, erased, half_erased, dark, counted}
use Rattle.drive.specs.declared.Gone.{Gone}
use Rattle.drive.specs.declared.chip_ops.Head.{Head}
use Rattle.drive.specs.declared.chip_ops.Programmed.{Programmed}
use Rattle.drive.specs.declared.chip_ops.Programmed.TheVariants.{Next, Full, Failed}

-- the head's block is one of the chip's, clean and not bad, its next page is the chip's, and there is one
pub record Holds (n : Nand) (h : Head) : Type 0 where
  pub inside : h.block < n.blocks
  pub clean : (n.block h.block).clean ≡ true
  pub sound : (n.block h.block).bad ≡ false
  pub here : (n.block h.block).next ≡ h.next
  pub within : h.next < n.pages

-- after an erasing: the block is erased and the head stands at its front, or it's bad, or the power has gone
abbrev pub Erases : Nand → ℕ → Result (Option Head) Gone → Nand → Type 0
Erases n k (Ok (Some h)) m = (m ≡ put_block k (erased (n.block k)) n) × (h.block ≡ k) × (h.next ≡ 0) × Holds m h
Erases n k (Ok None) m = m ≡ put_block k (broken (half_erased (n.block k))) n
Erases n k (Err e) m = (m ≡ dark (put_block k (half_erased (n.block k)) n)) ⊎ (m ≡ dark (counted n))

-- after a programming: the page is written and the head is one further or full, or the block is bad, or the power has gone
abbrev pub Programs : Nand → Head → List ℕ → Result Programmed Gone → Nand → Type 0
Programs n h b (Ok (Next g)) m =
    (m ≡ put_block h.block (put_page h.next (Written b) (n.block h.block)) n) × (g.block ≡ h.block) × (g.next ≡ h.next + 1) × Holds m g
Programs n h b (Ok Full) m = (m ≡ put_block h.block (put_page h.next (Written b) (n.block h.block)) n) × (h.next + 1 ≡ n.pages)
Programs n h b (Ok Failed) m = m ≡ put_block h.block (broken (put_page h.next (Torn b) (n.block h.block))) n
Programs n h b (Err e) m = (m ≡ dark (put_block h.block (put_page h.next (Torn b) (n.block h.block)) n)) ⊎ (m ≡ dark (counted n))

-- after a reading: nothing has changed and the page was shown, or the power has gone
abbrev pub Reads : {A : Type 0} → Nand → ℕ → ℕ → List ℕ → Result A Gone → Nand → Type 0
Reads n k p r (Ok u) m = (m ≡ counted n) × T n.on × Shows ((n.block k).page p) r
Reads n k p r (Err e) m = m ≡ dark (counted n)

-- the same, where it doesn't matter what was shown
abbrev pub Looked : {A : Type 0} → Nand → Result A Gone → Nand → Type 0
Looked n (Ok x) m = m ≡ counted n
Looked n (Err e) m = m ≡ dark (counted n)
