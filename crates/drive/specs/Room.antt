-- What lies where in the room.
-- Assumes nothing.
use Rattle.std.specs.Prelude.{ℕ, ◌+◌, ◌-◌, ◌*◌, ◌/◌, ◌%◌, ◌≤◌, cond, List, length, Some, None, Option, ◌==◌}
use Rattle.drive.specs.declared.room.Shape.{Shape}
use Rattle.drive.specs.declared.room.Standing.{Standing}
use Rattle.drive.specs.declared.room.Standing.TheVariants.{Free, Kept, Unreadable}
use Rattle.drive.specs.declared.room.Address.{Address}

-- the room is as large as the geometry asks
abbrev pub Lent : Shape → List ℕ → Type 0
Lent g room = 1048576 + (64 * g.blocks + 8 * g.total) ≤ length room

-- where a block's entry begins
abbrev pub block_at : ℕ → ℕ
block_at k = 270848 + 32 * k

-- where the place of a sector lies, on a chip of so many blocks
abbrev pub place_at : ℕ → ℕ → ℕ
place_at blocks s = 270848 + 32 * blocks + 4 * s

-- the code of where a block stands
abbrev pub code_of : Standing → ℕ
code_of Free = 0
code_of Kept = 1
code_of Unreadable = 2

-- and back: anything else is unreadable
abbrev pub standing : ℕ → Standing
standing k = cond (k == 0) Free (cond (k == 1) Kept Unreadable)

-- the page that the place of a sector names, 0 for none
abbrev pub placed : ℕ → Option Address
placed k = cond (k == 0) None (Some (record { block = (k - 1) / 256; page = (k - 1) % 256 }))
