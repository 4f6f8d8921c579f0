-- What asking leaves as it is.
use Rattle.std.specs.Prelude.{◌≡◌}
use Rattle.drive.specs.Nand.{Nand}

-- the geometry of a chip before and after
pub record Kept (n m : Nand) : Type 0 where
  pub blocks_kept : m.blocks ≡ n.blocks
  pub pages_kept : m.pages ≡ n.pages
