-- Ready, after an ask. Assumes nothing.
use Rattle.std.proofs.Common.{◌≡◌, ℕ, ◌-◌, ◌≤◌, List, length, IfSome, Some, None, Ok, Err, Option, Result, sym, refl, ap, ◌∙◌, arith}
use Rattle.drive.specs.Nand.{Nand, Block}
use Rattle.drive.specs.ChipOps.{Holds, Looked}
use Rattle.drive.specs.declared.Gone.{Gone}
use Rattle.drive.specs.declared.chip_ops.Head.{Head}
use Rattle.drive.specs.declared.journal.Journal.{Journal}
use Rattle.drive.specs.declared.room.Shape.{Shape}
use Rattle.drive.specs.Journals.{Ready}

-- what the head holds doesn't depend on how often the chip may be asked, nor on the power
holds_on : (n m : Nand) (h : Head) → m.blocks ≡ n.blocks → m.pages ≡ n.pages → m.block ≡ n.block → Holds n h → Holds m h
holds_on n m h blocks pages block holds =
    record {
      inside = omega (arith, holds.inside);
      clean = ap (λ (f : ℕ → Block). (f h.block).clean) block ∙ holds.clean;
      sound = ap (λ (f : ℕ → Block). (f h.block).bad) block ∙ holds.sound;
      here = ap (λ (f : ℕ → Block). (f h.block).next) block ∙ holds.here;
      within = omega (arith, holds.within);
    }

held_on : (n m : Nand) (o : Option Head) → m.blocks ≡ n.blocks → m.pages ≡ n.pages → m.block ≡ n.block → IfSome o (λ h. Holds n h) → IfSome o (λ h. Holds m h)
held_on n m None blocks pages block holds = tt
held_on n m (Some h) blocks pages block holds = holds_on n m h blocks pages block holds

-- what is ready is ready on any chip that holds the same, in a room as large, with as many asks as that allows
pub ready_same :
    (n m : Nand) (i j : Journal) (room room' : List ℕ) → m.blocks ≡ n.blocks → m.pages ≡ n.pages → m.block ≡ n.block → j.asks ≤ m.left
    → length room' ≡ length room → j.shape ≡ i.shape → j.head ≡ i.head → Ready n i room → Ready m j room'
ready_same n m i j room room' blocks pages block left len shape head r =
    record {
      lent = rw shape (omega (arith, r.lent));
      some = omega (arith, r.some);
      blocks = ap (λ (x : Shape). x.blocks) shape ∙ r.blocks ∙ sym blocks;
      pages = ap (λ (x : Shape). x.pages) shape ∙ r.pages ∙ sym pages;
      soon = left;
      holds = rw head (held_on n m i.head blocks pages block r.holds);
    }

-- after a reading all is ready for more, also where the power has gone
pub ready_read :
    {A : Type 0} (n m : Nand) (x : Result A Gone) (i j : Journal) (room room' : List ℕ) → Ready n i room → 1 ≤ i.asks → Looked n x m → length room' ≡ length room
    → j.shape ≡ i.shape → j.head ≡ i.head → j.asks ≡ i.asks - 1 → Ready m j room'
ready_read n m (Ok x) i j room room' r soon e len shape head asks =
    ready_same n m i j room room' (ap (λ (x : Nand). x.blocks) e) (ap (λ (x : Nand). x.pages) e) (ap (λ (x : Nand). x.block) e)
    (omega (arith, r.soon, ap (λ (x : Nand). x.left) e)) len shape head r
ready_read n m (Err x) i j room room' r soon e len shape head asks =
    ready_same n m i j room room' (ap (λ (x : Nand). x.blocks) e) (ap (λ (x : Nand). x.pages) e) (ap (λ (x : Nand). x.block) e)
    (omega (arith, r.soon, ap (λ (x : Nand). x.left) e)) len shape head r

-- the room changes and keeps its length
pub ready_room : (n : Nand) (j : Journal) (room room' : List ℕ) → length room' ≡ length room → Ready n j room → Ready n j room'
ready_room n j room room' len r = ready_same n n j j room room' refl refl refl r.soon len refl refl r
