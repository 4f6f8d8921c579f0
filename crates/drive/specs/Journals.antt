-- What the drive keeps true of its journal, the chip and the room while it asks.
-- Assumes nothing.
use Rattle.std.specs.Prelude.{◌≡◌, ℕ, ◌+◌, ◌*◌, ◌<◌, ◌≤◌, false, List, IfSome, None}
use Rattle.drive.specs.Nand.{Nand}
use Rattle.drive.specs.ChipOps.{Holds}
use Rattle.drive.specs.Room.{Lent}
use Rattle.drive.specs.declared.journal.Journal.{Journal}

-- the room is large enough, the journal knows the chip's geometry, the asks are allowed, and the head is the chip's
pub record Ready (n : Nand) (j : Journal) (room : List ℕ) : Type 0 where
  pub lent : Lent j.shape room
  pub some : 16 ≤ n.pages
  pub blocks : j.shape.blocks ≡ n.blocks
  pub pages : j.shape.pages ≡ n.pages
  pub soon : j.asks ≤ n.left
  pub holds : IfSome j.head (λ h. Holds n h)

-- nothing was asked, and the head is the same
pub record Alike (i j : Journal) : Type 0 where
  pub shape : j.shape ≡ i.shape
  pub asks : j.asks ≡ i.asks
  pub head : j.head ≡ i.head

-- a block that may be erased
abbrev pub Free : Nand → ℕ → Type 0
Free n b = (b < n.blocks) × ((n.block b).bad ≡ false)

-- the geometries of the sheet
pub record Sized (n : Nand) : Type 0 where
  pub low : 32 ≤ n.blocks
  pub high : n.blocks ≤ 65536
  pub short : 16 ≤ n.pages
  pub long : n.pages ≤ 256

-- a journal that knows nothing yet, of so many blocks of so many pages
pub record Unknown (b p : ℕ) (j : Journal) : Type 0 where
  pub blocks : j.shape.blocks ≡ b
  pub pages : j.shape.pages ≡ p
  pub total : j.shape.total ≡ b * p
  pub asks : j.asks ≡ 16 * b + 65536
  pub head : j.head ≡ None
  pub block : j.block ≡ 0
  pub count : j.count ≡ 0
  pub oldest : j.oldest ≡ 0
  pub tailed : j.tail_block ≡ 0
