-- The log: records, what each sector holds by them, and what a cut may leave.
-- Assumes nothing.
use Rattle.std.specs.Prelude.{◌≡◌, ℕ, suc, ◌+◌, ◌≤◌, Bool, true, false, cond, ◌&&◌, List, [], ◌∷◌, length, replicate, ◌==◌, nat_le}

-- what a sector holds that was never written
abbrev pub noughts : List ℕ
noughts = replicate 4096 0

-- flag: 0 fresh, 1 copied, 2 a seal that a coming-up added; tail: the log's when the record was appended
pub record Record : Type 0 where
  pub flag : ℕ
  pub kind : ℕ
  pub sector : ℕ
  pub content : List ℕ
  pub tail : ℕ

-- The newest record first; the index of a record is how many are older. tail: the index of the oldest that counts.
pub record Log : Type 0 where
  pub records : List Record
  pub tail : ℕ

-- kinds of records; a table says where sectors are
abbrev pub data_kind : ℕ
data_kind = 2

abbrev pub table_kind : ℕ
table_kind = 3

abbrev pub seal_kind : ℕ
seal_kind = 4

-- it says what a sector holds
abbrev pub is_data : Record → Bool
is_data r = r.kind == data_kind

-- it says nothing but that all before it are whole
abbrev pub is_seal : Record → Bool
is_seal r = r.kind == seal_kind

-- it says what this sector holds
abbrev pub holds : Record → ℕ → Bool
holds r s = is_data r && r.sector == s

-- ---- contents

-- the records from an index on
unfoldable pub live : ℕ → List Record → List Record
live t [] = []
live t (r ∷ rs) = cond (nat_le t (length rs)) (r ∷ live t rs) []

-- what a sector holds by these records: the content of the newest that says so, noughts where none does
unfoldable pub held : List Record → ℕ → List ℕ
held [] s = noughts
held (r ∷ rs) s = cond (holds r s) r.content (held rs s)

-- what each sector holds by the log
abbrev pub contents : Log → ℕ → List ℕ
contents l s = held (live l.tail l.records) s

-- the records that aren't seals
unfoldable pub unsealed : List Record → List Record
unsealed [] = []
unsealed (r ∷ rs) = cond (is_seal r) (unsealed rs) (r ∷ unsealed rs)

-- ---- places

-- where there's none
abbrev pub no_record : Record
no_record = record { flag = 0; kind = 0; sector = 0; content = []; tail = 0 }

-- the record with an index
unfoldable pub record_at : List Record → ℕ → Record
record_at [] i = no_record
record_at (r ∷ rs) i = cond (i == length rs) r (record_at rs i)

-- one more than the index of the newest record that says what the sector holds; 0 where there's none
unfoldable pub place_in : List Record → ℕ → ℕ
place_in [] s = 0
place_in (r ∷ rs) s = cond (holds r s) (suc (length rs)) (place_in rs s)

-- the record with the index is the newest of its sector
abbrev pub is_newest : List Record → ℕ → Bool
is_newest rs i = is_data (record_at rs i) && place_in rs (record_at rs i).sector == suc i

-- ---- steps

-- one more record, which carries the log's tail
abbrev pub append : (flag kind sector : ℕ) → List ℕ → Log → Log
append f k s b l = record { records = record { flag = f; kind = k; sector = s; content = b; tail = l.tail } ∷ l.records; tail = l.tail }

-- a copy of the record with the index
abbrev pub copied : ℕ → Log → Log
copied i l = append 1 (record_at l.records i).kind (record_at l.records i).sector (record_at l.records i).content l

-- the tail moves past one record
abbrev pub moved : Log → Log
moved l = record { records = l.records; tail = l.tail + 1 }

-- ---- cuts

-- these records after the power came back: they count from the tail on that the newest of them carries
unfoldable pub reopened : List Record → Log
reopened [] = record { records = []; tail = 0 }
reopened (r ∷ rs) = record { records = r ∷ rs; tail = r.tail }

-- what a cut may leave of the records: all, or all but the newest if that isn't a seal
pub data CutLeaves : List Record → List Record → Type 0 where
  whole : {rs : List Record} → CutLeaves rs rs
  lost : {r : Record} {rs : List Record} → is_seal r ≡ false → CutLeaves (r ∷ rs) rs

-- what a cut may leave while a record is being appended: what it may leave without it, or all with it if that is a seal
pub data CutDuring (r : Record) (rs : List Record) : List Record → Type 0 where
  unmade : {qs : List Record} → CutLeaves rs qs → CutDuring r rs qs
  made : is_seal r ≡ true → CutDuring r rs (r ∷ rs)

-- the records as they stood at some time, no earlier than the last seal
pub data SinceSeal : List Record → List Record → Type 0 where
  latest : {rs : List Record} → SinceSeal rs rs
  earlier : {r : Record} {rs qs : List Record} → is_seal r ≡ false → SinceSeal rs qs → SinceSeal (r ∷ rs) qs

-- what the sector held at some time no earlier than the last seal
abbrev pub HeldSinceSeal : List Record → ℕ → List ℕ → Type 0
HeldSinceSeal rs s b = (qs : List Record) × SinceSeal rs qs × (b ≡ contents (reopened qs) s)

-- the tail that the newest record carries gives the same contents as the log's
abbrev pub Reopens : Log → Type 0
Reopens l = (s : ℕ) → contents (reopened l.records) s ≡ contents l s

-- the oldest tail that the newest record of what a cut may leave may carry: records before it may go
unfoldable pub keep_of : List Record → ℕ
keep_of [] = 0
keep_of (r ∷ rs) = cond (is_seal r) r.tail (reopened rs).tail

-- the record but for its tail
abbrev pub bare : Record → Record
bare r = record { flag = r.flag; kind = r.kind; sector = r.sector; content = r.content; tail = 0 }

-- the newest record is a seal
unfoldable pub ends_sealed : List Record → Bool
ends_sealed [] = false
ends_sealed (r ∷ rs) = is_seal r

-- with a seal at the end, which a coming-up adds where there's none
abbrev pub sealed : Log → Log
sealed l = cond (ends_sealed l.records) l (append 2 seal_kind 0 [] l)

-- ---- form

-- going back from t the tails never rise, and none is past its own record
unfoldable pub Ordered : ℕ → List Record → Type 0
Ordered t [] = Unit {0}
Ordered t (r ∷ rs) = (r.tail ≤ t) × (r.tail ≤ length rs) × Ordered r.tail rs

-- the tail is no earlier than those that the records carry, and not past the end
pub record WellFormed (l : Log) : Type 0 where
  pub within : l.tail ≤ length l.records
  pub ordered : Ordered l.tail l.records
