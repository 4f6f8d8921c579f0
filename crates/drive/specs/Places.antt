-- What the table of places in the room says of the log.
-- Assumes nothing.
use Rattle.std.specs.Prelude.{◌≡◌, ℕ, ◌<◌, ◌≤◌, List}
use Rattle.words.specs.Words.{value_at}
use Rattle.laws.specs.Log.{Log, place_in}
use Rattle.drive.specs.Room.{place_at}
use Rattle.drive.specs.declared.room.Shape.{Shape}

-- a sector that has no place has no record from the tail on
abbrev pub Tabled : Shape → List ℕ → Log → Type 0
Tabled g room l = (s : ℕ) → s < g.total → value_at 4 room (place_at g.blocks s) ≡ 0 → place_in l.records s ≤ l.tail
