-- Drives that are up, and where one can come up.
-- Assumes nothing.
use Rattle.std.specs.Prelude.{ℕ, ◌+◌, ◌*◌, ◌≤◌, List, Option, IfSome}
use Rattle.std.proofs.Props.{props}
use Rattle.drive.specs.Nand.{Nand}
use Rattle.drive.specs.Journals.{Ready}
use Rattle.drive.specs.Service.{Standing}
use Rattle.drive.specs.declared.Drive.{Drive}

-- if there is a drive, it, the chip and the room are ready for a turn
abbrev pub Up : Nand → Option Drive → List ℕ → Type 0
Up n drive room = IfSome drive (λ d. Standing n d room)

-- there is one proof of it at most
pub Up-prop : (n : Nand) (drive : Option Drive) (room : List ℕ) → IsProp (Up n drive room)
Up-prop n drive room = Prim.hlevel props

-- a geometry of the sheet, and a room that is large enough for it
pub record Fit (blocks pages room : ℕ) : Type 0 where
  pub low : 32 ≤ blocks
  pub high : blocks ≤ 65536
  pub short : 16 ≤ pages
  pub long : pages ≤ 256
  pub lent : 1048576 + (64 * blocks + 8 * (blocks * pages)) ≤ room
