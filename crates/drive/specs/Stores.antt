-- What a method of the store keeps, and what it spends.
-- Assumes nothing.
use Rattle.std.specs.Prelude.{◌≡◌, ℕ, ◌+◌, ◌≤◌, false, is_ok, Result}
use Rattle.drive.specs.declared.Chip.{Ghosts}
use Rattle.drive.specs.declared.Gone.{Gone}
use Rattle.drive.specs.declared.store.Store.{Store}

-- the same chip, room and journal are lent, and the geometry is the same
pub record Same {C : Type 0} {c : Ghosts C} (s t : Store C c) : Type 0 where
  pub chip : t.chip.ghost_name ≡ s.chip.ghost_name
  pub room : t.room.ghost_name ≡ s.room.ghost_name
  pub journal : t.journal.ghost_name ≡ s.journal.ghost_name
  pub shape : t.journal.now.shape ≡ s.journal.now.shape

-- the same, and at most so many asks were spent
pub record Spent {C : Type 0} {c : Ghosts C} (k : ℕ) (s t : Store C c) : Type 0 where
  pub chip : t.chip.ghost_name ≡ s.chip.ghost_name
  pub room : t.room.ghost_name ≡ s.room.ghost_name
  pub journal : t.journal.ghost_name ≡ s.journal.ghost_name
  pub shape : t.journal.now.shape ≡ s.journal.now.shape
  pub most : s.journal.now.asks ≤ t.journal.now.asks + k
  pub least : t.journal.now.asks ≤ s.journal.now.asks

-- only the room was written: the chip and the journal are as they were
pub record Wrote {C : Type 0} {c : Ghosts C} (s t : Store C c) : Type 0 where
  pub chip : t.chip.now ≡ s.chip.now
  pub journal : t.journal.now ≡ s.journal.now

-- something was noted in room and journal: the chip is as it was, and the head
pub record Noted {C : Type 0} {c : Ghosts C} (s t : Store C c) : Type 0 where
  pub chip : t.chip.now ≡ s.chip.now
  pub head : t.journal.now.head ≡ s.journal.now.head

-- after at most k asks; where that failed, the power has gone
abbrev pub Went : {C : Type 0} {c : Ghosts C} {A : Type 0} → ℕ → Result A Gone → Store C c → Store C c → Type 0
Went {c = c} k r s t = Spent k s t × (is_ok r ≡ false → (c.nand t.chip.now).on ≡ false)

-- after any number of asks that were allowed; where that failed, the power has gone
abbrev pub Rose : {C : Type 0} {c : Ghosts C} {A : Type 0} → Result A Gone → Store C c → Store C c → Type 0
Rose {c = c} r s t = Same s t × (is_ok r ≡ false → (c.nand t.chip.now).on ≡ false)
