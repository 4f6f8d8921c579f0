-- The laws of the log, each as one statement.
-- Assumes nothing.
use Rattle.std.specs.Prelude.{◌≡◌, ℕ, ◌-◌, ◌<◌, ◌≤◌, true, false, cond, ◌≢◌, List, ◌∷◌, ◌++◌, map, length, nat_lt}
use Rattle.laws.specs.Log.{noughts, Record, Log, data_kind, seal_kind, is_seal, live, held, contents, unsealed, record_at, place_in, is_newest, append, copied, moved, reopened, CutLeaves, HeldSinceSeal, Reopens, keep_of, bare, sealed, WellFormed}

-- ---- what each step changes

-- an append of a data record changes its sector and no other
abbrev pub AppendChangesOne : Type 0
AppendChangesOne =
    (l : Log) (f s : ℕ) (b : List ℕ) → l.tail ≤ length l.records →
    (contents (append f data_kind s b l) s ≡ b) × ((t : ℕ) → t ≢ s → contents (append f data_kind s b l) t ≡ contents l t)

-- a seal changes none
abbrev pub SealChangesNone : Type 0
SealChangesNone = (l : Log) (f s : ℕ) (b : List ℕ) (t : ℕ) → contents (append f seal_kind s b l) t ≡ contents l t

-- nor does a record of any other kind than data
abbrev pub OthersChangeNone : Type 0
OthersChangeNone = (l : Log) (f k s : ℕ) (b : List ℕ) → k ≢ data_kind → (t : ℕ) → contents (append f k s b l) t ≡ contents l t

-- a copy of the newest record of a sector changes none
abbrev pub CopyChangesNone : Type 0
CopyChangesNone = (l : Log) (i : ℕ) → is_newest l.records i ≡ true → l.tail ≤ i → (s : ℕ) → contents (copied i l) s ≡ contents l s

-- moving the tail past a record that isn't the newest of its sector changes none
abbrev pub MoveChangesNone : Type 0
MoveChangesNone = (l : Log) → is_newest l.records l.tail ≡ false → (s : ℕ) → contents (moved l) s ≡ contents l s

-- nor does moving it past one that was copied
abbrev pub CopyAndMoveChangesNone : Type 0
CopyAndMoveChangesNone = (l : Log) → is_newest l.records l.tail ≡ true → (s : ℕ) → contents (moved (copied l.tail l)) s ≡ contents l s

-- leaving out seals changes none
abbrev pub SealsSayNothing : Type 0
SealsSayNothing = (l : Log) (s : ℕ) → held (unsealed (live l.tail l.records)) s ≡ contents l s

-- what a sector holds stands where its place says, if that isn't behind the tail
abbrev pub PlaceSays : Type 0
PlaceSays = (l : Log) (s : ℕ) → contents l s ≡ cond (nat_lt l.tail (place_in l.records s)) (record_at l.records (place_in l.records s - 1)).content noughts

-- the tails that records carry say nothing of what sectors hold
abbrev pub TailsSayNothing : Type 0
TailsSayNothing = (t : ℕ) (rs qs : List Record) → map bare rs ≡ map bare qs → (s : ℕ) → held (live t rs) s ≡ held (live t qs) s

-- ---- what a cut leaves

-- every content that a cut may leave is one that the sector held no earlier than the last seal
abbrev pub CutSinceSeal : Type 0
CutSinceSeal = (l : Log) (qs : List Record) → CutLeaves l.records qs → (s : ℕ) → HeldSinceSeal l.records s (contents (reopened qs) s)

-- a cut straight after a seal leaves what every sector held
abbrev pub CutAfterSeal : Type 0
CutAfterSeal =
    (l : Log) (f s : ℕ) (b : List ℕ) (qs : List Record) → CutLeaves (append f seal_kind s b l).records qs → (t : ℕ) → contents (reopened qs) t ≡ contents l t

-- a cut at any time leaves each seal and all records before it
abbrev pub CutLeavesSealed : Type 0
CutLeavesSealed =
    (ns : List Record) (r : Record) (rs qs : List Record) → is_seal r ≡ true → CutLeaves (ns ++ (r ∷ rs)) qs → (ms : List Record) × (qs ≡ ms ++ (r ∷ rs))

-- what the log holds is what its records hold with the tail that the newest carries: so after each append, and while the tail moves
abbrev pub ReopensKept : Type 0
ReopensKept =
    ((l : Log) (f k s : ℕ) (b : List ℕ) → Reopens (append f k s b l)) × ((l : Log) → is_newest l.records l.tail ≡ false → Reopens l → Reopens (moved l))

-- a cut that loses a copy loses nothing
abbrev pub CutOfCopyChangesNone : Type 0
CutOfCopyChangesNone =
    (l : Log) (i : ℕ) → Reopens l → is_newest l.records i ≡ true → l.tail ≤ i →
    (qs : List Record) → CutLeaves (copied i l).records qs → (s : ℕ) → contents (reopened qs) s ≡ contents l s

-- records older than what is to be kept are of no account to whatever a cut may leave: with others in their place it leaves the same contents
abbrev pub KeepSuffices : Type 0
KeepSuffices =
    (l : Log) (rs : List Record) → WellFormed l → length l.records ≡ length rs →
    ((i : ℕ) → keep_of l.records ≤ i → i < length l.records → record_at l.records i ≡ record_at rs i) →
    (qs : List Record) → CutLeaves rs qs → (ps : List Record) × CutLeaves l.records ps × ((s : ℕ) → contents (reopened qs) s ≡ contents (reopened ps) s)

-- what is to be kept never grows: not by an append, and not by a cut and the seal after it
abbrev pub KeepRises : Type 0
KeepRises =
    ((l : Log) (f k s : ℕ) (b : List ℕ) → WellFormed l → keep_of l.records ≤ keep_of (append f k s b l).records) ×
    ((l : Log) (qs : List Record) → WellFormed l → CutLeaves l.records qs → keep_of l.records ≤ keep_of (sealed (reopened qs)).records)
