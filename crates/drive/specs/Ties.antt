-- How a log stands for what whoever uses the drive sees.
-- Assumes nothing.
use Rattle.std.specs.Prelude.{◌≡◌, ℕ, ◌-◌, ◌*◌, ◌≤◌, List, take, drop}
use mathlib.Core.List.{Memᴰ}
use Rattle.drive.specs.Host.{Cmd, Read, Write, Trim, Flush, Way, Seen, noughts, present}
use Rattle.laws.specs.Log.{Record, Log, data_kind, contents, append, reopened, CutLeaves, WellFormed}

-- one of the sector's contents that are numbered from lo on
abbrev pub Among : Seen → (s lo : ℕ) → List ℕ → Type 0
Among h s lo b = (k : ℕ) × (lo ≤ k) × (k ≤ h.count s) × (b ≡ h.content s k)

-- whatever a cut may leave of the log, each sector holds one of its contents from lo on
abbrev pub Lasts : (ℕ → ℕ) → Seen → Log → Type 0
Lasts lo h l = (qs : List Record) → CutLeaves l.records qs → (s : ℕ) → Among h s (lo s) (contents (reopened qs) s)

-- agrees: the log holds the present contents; lasts: a cut leaves contents between low and count;
-- marks: what a flush has to make lasting was there
pub record Fits (h : Seen) (l : Log) : Type 0 where
  pub formed : WellFormed l
  pub agrees : (s : ℕ) → contents l s ≡ present h s
  pub lasts : Lasts h.low h l
  pub marks : (w : Way) → Memᴰ w h.ways → (s : ℕ) → w.marks s ≤ h.count s

-- the log after one sector of a command was taken
unfoldable pub taken : Cmd → ℕ → Log → Log
taken (Read from many) s l = l
taken (Write from many bs) s l = append 0 data_kind s (take 4096 (drop (4096 * (s - from)) bs)) l
taken (Trim from many) s l = append 0 data_kind s noughts l
taken Flush s l = l
