-- The length of the log: entries are added at its head, and garbage is collected at its tail before each that is added.
-- Assumes nothing.
use Rattle.std.specs.Prelude.{◌≡◌, ℕ, ◌+◌, ◌-◌, ◌*◌, ◌/◌, ◌%◌, ◌<◌, ◌≤◌, max, ◌⊎◌, List, [], ◌∷◌, ◌++◌, length}

-- the sectors of a drive with so many pages
abbrev pub size_of : ℕ → ℕ
size_of total = 5 * total / 8

-- What stands in the log: a sector as it was written, a sector copied from the tail, or a seal.
pub data Entry : Type 0 where
  written : (sector : ℕ) → Entry
  copied : (sector : ℕ) → Entry
  seal : Entry

-- the entry is one of sector s
abbrev pub Of : ℕ → Entry → Type 0
Of s (written t) = s ≡ t
Of s (copied t) = s ≡ t
Of s seal = ⊥

-- some entry of the list is one of sector s
abbrev pub Has : ℕ → List Entry → Type 0
Has s [] = ⊥
Has s (e ∷ l) = Of s e ⊎ Has s l

-- an entry may be added by whoever uses the drive: no look at the tail is owed, or the log is no longer than the threshold
abbrev pub Due : (threshold : ℕ) → List Entry → (owed : ℕ) → Type 0
Due threshold l owed = (owed ≡ 0) ⊎ (length l ≤ threshold)

-- Logs that may stand, the newest entry first. half: 1 if the oldest was copied and the tail hasn't moved past it, else 0;
-- owed: how many looks at the tail are due before the next write or flush; debt: how many may be due when a coming-up adds a seal.
-- A cut leaves the log of an earlier step.
pub data LogSteps (sectors threshold debt : ℕ) : List Entry → (half owed : ℕ) → Type 0 where
  empty : LogSteps sectors threshold debt [] 0 0
  -- a sector is written, and owes fourteen looks
  writes : {l : List Entry} {half owed : ℕ} (s : ℕ) → LogSteps sectors threshold debt l half owed → s < sectors → Due threshold l owed → LogSteps sectors threshold debt (written s ∷ l) half 14
  -- so does the seal of a flush
  flushes : {l : List Entry} {half owed : ℕ} → LogSteps sectors threshold debt l half owed → Due threshold l owed → LogSteps sectors threshold debt (seal ∷ l) half 14
  -- the seal of a coming-up is added at once, and owes fourteen beside
  comes_up : {l : List Entry} {half owed : ℕ} → LogSteps sectors threshold debt l half owed → owed ≤ debt → LogSteps sectors threshold debt (seal ∷ l) half (owed + 14)
  -- after a cut it isn't known how many of the looks were made: more may be taken to be owed
  reckons : {l : List Entry} {half owed : ℕ} (more : ℕ) → LogSteps sectors threshold debt l half owed → owed ≤ more → more ≤ debt + 14 → LogSteps sectors threshold debt l half more
  -- a look finds that the oldest entry is the newest of its sector: it is copied to the head
  copies : {owed : ℕ} (l : List Entry) (e : Entry) (s : ℕ) → LogSteps sectors threshold debt (l ++ (e ∷ [])) 0 owed → 0 < owed → Of s e → (Has s l → ⊥) → LogSteps sectors threshold debt (copied s ∷ (l ++ (e ∷ []))) 1 owed
  -- the oldest entry isn't the newest of a sector, or not any more: the tail moves past it, and the look is done
  passes : {half owed : ℕ} (l : List Entry) (e : Entry) → LogSteps sectors threshold debt (l ++ (e ∷ [])) half owed → ((s : ℕ) → Of s e → Has s l) → LogSteps sectors threshold debt l 0 (owed - 1)

-- 1. The log is never longer than most, but for an entry that is half collected and for what is owed.
abbrev pub LogFits : Type 0
LogFits =
    (sectors threshold debt most : ℕ) → 0 < most → 14 * sectors ≤ 13 * most → 15 * threshold ≤ 14 * most → (l : List Entry) (half owed : ℕ) → LogSteps sectors threshold debt l half owed → 14 * length l < 14 * (most + half) + owed

-- 2. So where comings-up add seals only while no more is owed than for k entries, it is longer than most by at most k and the half.
abbrev pub LogLength : Type 0
LogLength =
    (sectors threshold debt most : ℕ) → 0 < most → 14 * sectors ≤ 13 * most → 15 * threshold ≤ 14 * most → (k : ℕ) → debt ≤ 14 * k → (l : List Entry) (half owed : ℕ) → LogSteps sectors threshold debt l half owed → (half ≤ 1) × (length l ≤ most + half + k)

-- Blocks that are good when a sixteenth of all has failed.
abbrev pub good_blocks : ℕ → ℕ
good_blocks blocks = blocks - blocks / 16

-- Blocks that are kept free beside the log.
abbrev pub spare_blocks : ℕ → ℕ
spare_blocks blocks = max 4 (blocks / 16)

-- What the log may hold: of the good blocks and without the spare ones all but three, with a page of each for its header.
abbrev pub log_room : (blocks pages : ℕ) → ℕ
log_room blocks pages = (good_blocks blocks - 3 - spare_blocks blocks) * (pages - 1)

-- Above this length garbage is collected.
abbrev pub log_threshold : (blocks pages : ℕ) → ℕ
log_threshold blocks pages = 14 * log_room blocks pages / 15

-- a chip of the sheet: at least 32 blocks of a multiple of eight pages, at least sixteen
abbrev pub Sheet : (blocks pages : ℕ) → Type 0
Sheet blocks pages = (32 ≤ blocks) × (16 ≤ pages) × (pages % 8 ≡ 0)

-- 3. For every chip of the sheet the inequalities hold, with most the log's room.
abbrev pub RoomSuffices : Type 0
RoomSuffices =
    (blocks pages : ℕ) → Sheet blocks pages → (0 < log_room blocks pages) × (14 * size_of (blocks * pages) ≤ 13 * log_room blocks pages) × (15 * log_threshold blocks pages ≤ 14 * log_room blocks pages)

-- 4. So the spare blocks stay free: with full blocks between the first and the last of the log, these two and one more, where
-- comings-up add seals only while no more is owed than for all pages of a block but one.
abbrev pub SpareStaysFree : Type 0
SpareStaysFree =
    (blocks pages debt : ℕ) → Sheet blocks pages → debt + 14 ≤ 14 * pages → (l : List Entry) (half owed : ℕ) → LogSteps (size_of (blocks * pages)) (log_threshold blocks pages) debt l half owed → (full : ℕ) → full * (pages - 1) + 2 ≤ length l → full + 3 + spare_blocks blocks ≤ good_blocks blocks
