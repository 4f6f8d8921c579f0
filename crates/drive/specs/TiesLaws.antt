-- The laws that tie the log to what is seen: each step keeps that it fits.
-- Assumes nothing.
use Rattle.std.specs.Prelude.{◌≡◌, ℕ, ◌-◌, ◌*◌, ◌<◌, ◌≤◌, true, false, ◌≢◌, List, [], ◌∷◌, map, length, take, drop}
use mathlib.Core.List.{Memᴰ}
use Rattle.drive.specs.Host.{Cmd, Read, Write, Trim, Flush, Way, Seen, noughts, fresh, rising, begun, takes, older, ended, left, size_of}
use Rattle.laws.specs.Log.{noughts as noughts', Record, Log, data_kind, seal_kind, is_seal, contents, is_newest, append, copied, moved, reopened, CutLeaves, CutDuring, bare, sealed, Ordered, WellFormed}
use Rattle.laws.specs.Space.{size_of as size_of'}
use Rattle.drive.specs.Ties.{Lasts, Fits, taken}

-- ---- steps that are seen

-- an empty log fits what was never used
abbrev pub NewFits : Type 0
NewFits = Fits fresh (record { records = []; tail = 0 })

-- it begins to come up
abbrev pub RisingFits : Type 0
RisingFits = (h : Seen) (l : Log) → Fits h l → Fits (rising h) l

-- a command is asked
abbrev pub AskedFits : Type 0
AskedFits = (h : Seen) (l : Log) (t : ℕ) (c : Cmd) → Fits h l → Fits (begun t c h) l

-- a sector of a read is taken
abbrev pub ReadFits : Type 0
ReadFits = (h : Seen) (l : Log) (w : Way) (from many s : ℕ) → Fits h l → Memᴰ w h.ways → Fits (takes (Read from many) w s h) l

-- a sector of a write is taken: its record is appended
abbrev pub WriteFits : Type 0
WriteFits =
    (h : Seen) (l : Log) (w : Way) (from many s : ℕ) (bs : List ℕ) → Fits h l → Memᴰ w h.ways →
    Fits (takes (Write from many bs) w s h) (append 0 data_kind s (take 4096 (drop (4096 * (s - from)) bs)) l)

-- a sector of a trim is taken: a record of noughts is appended
abbrev pub TrimFits : Type 0
TrimFits =
    (h : Seen) (l : Log) (w : Way) (from many s : ℕ) → Fits h l → Memᴰ w h.ways → Fits (takes (Trim from many) w s h) (append 0 data_kind s noughts l)

-- a sector of any command is taken
abbrev pub TakenFits : Type 0
TakenFits = (h : Seen) (l : Log) (w : Way) (s : ℕ) → Fits h l → Memᴰ w h.ways → Fits (takes w.cmd w s h) (taken w.cmd s l)

-- a turn
abbrev pub TurnedFits : Type 0
TurnedFits = (h : Seen) (l : Log) → Fits h l → Fits (older h) l

-- a command is told that is no flush
abbrev pub ToldFits : Type 0
ToldFits = (h : Seen) (l : Log) (w : Way) → Fits h l → w.cmd ≢ Flush → Fits (ended w h) l

-- a flush is told straight behind a seal
abbrev pub FlushedFits : Type 0
FlushedFits = (h : Seen) (l : Log) (w : Way) (f s : ℕ) (b : List ℕ) → Fits h l → Memᴰ w h.ways → Fits (ended w h) (append f seal_kind s b l)

-- a flush is told at any time at which all that it has to make lasting lasts
abbrev pub LastingFits : Type 0
LastingFits = (h : Seen) (l : Log) (w : Way) → Fits h l → Lasts w.marks h l → Fits (ended w h) l

-- a cut: whatever it leaves are contents between low and count, and they fit once a seal is at the end
abbrev pub CutFits : Type 0
CutFits =
    (h : Seen) (l : Log) → Fits h l → (qs : List Record) → CutLeaves l.records qs →
    (pick : ℕ → ℕ) × ((s : ℕ) → (h.low s ≤ pick s) × (pick s ≤ h.count s)) × Fits (left pick h) (sealed (reopened qs))

-- the same while a record is being appended
abbrev pub CutDuringFits : Type 0
CutDuringFits =
    (h : Seen) (l : Log) (f k s : ℕ) (b : List ℕ) → Fits h l →
    (qs : List Record) → CutDuring (record { flag = f; kind = k; sector = s; content = b; tail = l.tail }) l.records qs →
    (pick : ℕ → ℕ) × ((t : ℕ) → (h.low t ≤ pick t) × (pick t ≤ h.count t)) × Fits (left pick h) (sealed (reopened qs))

-- without the seal they need not fit: another cut may take one more record
abbrev pub CutNeedsSeal : Type 0
CutNeedsSeal = (h : Seen) × (l : Log) × Fits h l × ((pick : ℕ → ℕ) → Fits (left pick h) (reopened l.records) → ⊥)

-- ---- steps that aren't

-- a seal: all that is there lasts from then on
abbrev pub SealFits : Type 0
SealFits = (h : Seen) (l : Log) (f s : ℕ) (b : List ℕ) → Fits h l → Fits h (append f seal_kind s b l) × Lasts h.count h (append f seal_kind s b l)

-- a record that is no data record
abbrev pub OtherFits : Type 0
OtherFits = (h : Seen) (l : Log) (f k s : ℕ) (b : List ℕ) → k ≢ data_kind → Fits h l → Fits h (append f k s b l)

-- a copy of the newest record of a sector
abbrev pub CopyFits : Type 0
CopyFits = (h : Seen) (l : Log) (i : ℕ) → is_newest l.records i ≡ true → l.tail ≤ i → Fits h l → Fits h (copied i l)

-- the tail moves past a record that isn't the newest of its sector
abbrev pub MoveFits : Type 0
MoveFits = (h : Seen) (l : Log) → is_newest l.records l.tail ≡ false → l.tail < length l.records → Fits h l → Fits h (moved l)

-- the newest record of a sector, at the tail, is copied, and the tail moves past it
abbrev pub CopyAndMoveFits : Type 0
CopyAndMoveFits = (h : Seen) (l : Log) → is_newest l.records l.tail ≡ true → Fits h l → Fits h (moved (copied l.tail l))

-- records before a seal at the end may carry other tails
abbrev pub OtherTailsFit : Type 0
OtherTailsFit =
    (h : Seen) (r : Record) (rs qs : List Record) (t : ℕ) → is_seal r ≡ true → map bare rs ≡ map bare qs → Ordered r.tail qs →
    Fits h (record { records = r ∷ rs; tail = t }) → Fits h (record { records = r ∷ qs; tail = t })

-- whatever a coming-up settles on fits what it then holds
abbrev pub OpenedFits : Type 0
OpenedFits =
    (l : Log) (qs : List Record) (n : ℕ) → WellFormed l → CutLeaves l.records qs →
    Fits (record { content = λ s k. contents (reopened qs) s; count = λ s. 0; low = λ s. 0; ways = []; work = n }) (sealed (reopened qs))

-- ---- what lasts goes on to last

-- from an earlier content on all the more
abbrev pub LastsLess : Type 0
LastsLess = (h : Seen) (l : Log) (lo lo' : ℕ → ℕ) → ((s : ℕ) → lo' s ≤ lo s) → Lasts lo h l → Lasts lo' h l

-- while sectors are taken
abbrev pub TakenLasts : Type 0
TakenLasts = (h : Seen) (l : Log) (lo : ℕ → ℕ) (w : Way) (s : ℕ) → Fits h l → Lasts lo h l → Lasts lo (takes w.cmd w s h) (taken w.cmd s l)

-- and while records are appended that change no content
abbrev pub AppendLasts : Type 0
AppendLasts =
    (h : Seen) (l : Log) (lo : ℕ → ℕ) (f k s : ℕ) (b : List ℕ) → ((t : ℕ) → contents (append f k s b l) t ≡ contents l t) → Fits h l → Lasts lo h l →
    Lasts lo h (append f k s b l)

-- ---- the laws of the log speak of the drive's sectors

-- they count as many sectors as the promise does
abbrev pub SameSize : Type 0
SameSize = (total : ℕ) → size_of' total ≡ size_of total

-- and a sector that was never written holds by them what it holds by the promise
abbrev pub SameNoughts : Type 0
SameNoughts = noughts' ≡ noughts
