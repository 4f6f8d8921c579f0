-- Coming up: which block is believed, and which may be erased before another is whole. The chip as slots, one for each block.
-- Assumes nothing.
use Rattle.std.specs.Prelude.{◌≡◌, ℕ, zero, suc, ◌+◌, ◌<◌, ◌≤◌, Bool, true, false, cond, ◌⊎◌, ◌==◌, ◌≢◌}
use Rattle.laws.specs.Wear.{put}

-- a page, or pages that are written one after the other: torn is what a cut or a failure leaves, seen today and not tomorrow
pub data Page : Type 0 where
  blank written torn : Page

-- A slot: its key; how many slots had failed when that was given; all pages before its commit page; its commit page; whether it
-- failed; and whether it holds what was told last. Of keys only the order counts: by era first, and then by number.
pub record Slot : Type 0 where
  pub key : ℕ
  pub era : ℕ
  pub body : Page
  pub commit : Page
  pub bad : Bool
  pub current : Bool

abbrev pub Chip : Type 0
Chip = ℕ → Slot

-- what is left of a page whose erasing was cut
abbrev pub tear : Page → Page
tear blank = blank
tear written = torn
tear torn = torn

-- a slot whose erasing was cut, or failed
abbrev pub half_erased : Bool → Slot → Slot
half_erased bad s = record { key = s.key; era = s.era; body = tear s.body; commit = tear s.commit; bad = bad; current = s.current }

abbrev pub erased_slot : Slot
erased_slot = record { key = 0; era = 0; body = blank; commit = blank; bad = false; current = false }

-- a slot into which another is copied, with a new key
abbrev pub copy_of : Slot → (era key : ℕ) → (body commit : Page) → Bool → Slot
copy_of s era k body commit bad = record { key = k; era = era; body = body; commit = commit; bad = bad; current = s.current }

-- a page is seen if it's written, and if it's torn by chance
abbrev pub Seen : Page → Bool → Type 0
Seen blank b = ⊥
Seen written b = Unit {0}
Seen torn b = b ≡ true

-- one look at the chip: which of the torn pages are seen
pub record Look : Type 0 where
  pub bodies : ℕ → Bool
  pub commits : ℕ → Bool

-- slot i looks whole
abbrev pub Committed : Chip → Look → ℕ → Type 0
Committed chip look i = Seen (chip i).body (look.bodies i) × Seen (chip i).commit (look.commits i)

-- s is believed: of those of n slots that look whole it has the highest key
abbrev pub Believed : (n : ℕ) → Chip → Look → ℕ → Type 0
Believed n chip look s = (s < n) × Committed chip look s × ((i : ℕ) → i < n → Committed chip look i → (chip i).key ≤ (chip s).key)

-- x has to be cleared: it's good, and its key can't be read
abbrev pub Unread : (n : ℕ) → Chip → Look → ℕ → Type 0
Unread n chip look x = (x < n) × ((chip x).bad ≡ false) × ((chip x).body ≡ torn) × (look.bodies x ≡ false)

-- nothing has to be cleared any more
abbrev pub Cleared : (n : ℕ) → Chip → Look → Type 0
Cleared n chip look = (i : ℕ) → i < n → (chip i).bad ≡ false → (chip i).body ≡ torn → look.bodies i ≡ true

-- w is the slot to take: good, not the believed one, and blank; or if no such slot is blank the one with the lowest key
abbrev pub NextSlot : (n : ℕ) → Chip → (source w : ℕ) → Type 0
NextSlot n chip source w =
    (w < n) × (w ≢ source) × ((chip w).bad ≡ false) × (((chip w).body ≡ blank) ⊎ ((i : ℕ) → i < n → (i ≢ source) → (chip i).bad ≡ false → ((chip i).body ≢ blank) × ((chip w).key ≤ (chip i).key)))

-- k is above all keys that are seen, and above those of failed slots
abbrev pub Above : (n : ℕ) → Chip → Look → ℕ → Type 0
Above n chip look k = (i : ℕ) → i < n → Seen (chip i).body (look.bodies i) ⊎ ((chip i).bad ≡ true) → (chip i).key < k

-- the sum of f below n
unfoldable pub sum_of : ℕ → (ℕ → ℕ) → ℕ
sum_of zero f = 0
sum_of (suc n) f = sum_of n f + f n

-- how many slots are good
abbrev pub good_slots : ℕ → Chip → ℕ
good_slots n chip = sum_of n (λ i. cond (chip i).bad 0 1)

-- how many failed
abbrev pub bad_slots : ℕ → Chip → ℕ
bad_slots n chip = sum_of n (λ i. cond (chip i).bad 1 0)

-- Off; or coming up from a source, by one look; having erased a slot; having copied the source into it but for the commit page.
pub data Phase : Type 0 where
  off : Phase
  rising : (look : Look) (source : ℕ) → Phase
  opened : (look : Look) (source slot : ℕ) → Phase
  filled : (look : Look) (source slot : ℕ) → Phase

-- it has power
abbrev pub On : Phase → Type 0
On off = ⊥
On (rising look s) = Unit {0}
On (opened look s w) = Unit {0}
On (filled look s w) = Unit {0}

-- it is up by slot w, and tells something: nothing else holds that
abbrev pub up_by : Chip → ℕ → Chip
up_by chip w i =
    record { key = (chip i).key; era = (chip i).era; body = (chip i).body; commit = cond (i == w) written (chip i).commit; bad = (chip i).bad; current = cond (i == w) (chip i).current false }

-- one slot was written, the others are blank
abbrev pub first_chip : Chip
first_chip = put (λ i. erased_slot) 0 (record { key = 1; era = 0; body = written; commit = written; bad = false; current = true })

-- Chips of n slots that may stand, with how many comings-up in a row were cut: fewer than there are good slots, and extra.
pub data Life (n extra : ℕ) : Chip → (cuts : ℕ) → Phase → Type 0 where
  first : 0 < n → Life n extra first_chip 0 off
  looks : {chip : Chip} {cuts : ℕ} (look : Look) (s : ℕ) → Life n extra chip cuts off → Believed n chip look s → Life n extra chip cuts (rising look s)
  clears : {chip : Chip} {cuts : ℕ} {look : Look} {s : ℕ} (x : ℕ) → Life n extra chip cuts (rising look s) → Unread n chip look x → Life n extra (put chip x erased_slot) cuts (rising look s)
  takes : {chip : Chip} {cuts : ℕ} {look : Look} {s : ℕ} (w : ℕ) → Life n extra chip cuts (rising look s) → Cleared n chip look → NextSlot n chip s w → Life n extra (put chip w erased_slot) cuts (opened look s w)
  -- of these erasings one may fail, or be cut
  erase_fails : {chip : Chip} {cuts : ℕ} {look : Look} {s : ℕ} (x : ℕ) → Life n extra chip cuts (rising look s) → Unread n chip look x ⊎ (Cleared n chip look × NextSlot n chip s x) → Life n extra (put chip x (half_erased true (chip x))) cuts (rising look s)
  erase_cut : {chip : Chip} {cuts : ℕ} {look : Look} {s : ℕ} (x : ℕ) → Life n extra chip cuts (rising look s) → Unread n chip look x ⊎ (Cleared n chip look × NextSlot n chip s x) → cuts + 1 < good_slots n chip + extra → Life n extra (put chip x (half_erased false (chip x))) (cuts + 1) off
  fills : {chip : Chip} {cuts : ℕ} {look : Look} {s w : ℕ} (k : ℕ) → Life n extra chip cuts (opened look s w) → Above n chip look k → Life n extra (put chip w (copy_of (chip s) (bad_slots n chip) k written blank false)) cuts (filled look s w)
  fill_fails : {chip : Chip} {cuts : ℕ} {look : Look} {s w : ℕ} (k : ℕ) → Life n extra chip cuts (opened look s w) → Above n chip look k → Life n extra (put chip w (copy_of (chip s) (bad_slots n chip) k torn blank true)) cuts (rising look s)
  fill_cut : {chip : Chip} {cuts : ℕ} {look : Look} {s w : ℕ} (k : ℕ) → Life n extra chip cuts (opened look s w) → Above n chip look k → cuts + 1 < good_slots n chip + extra → Life n extra (put chip w (copy_of (chip s) (bad_slots n chip) k torn blank false)) (cuts + 1) off
  commits : {chip : Chip} {cuts : ℕ} {look : Look} {s w : ℕ} → Life n extra chip cuts (filled look s w) → Life n extra (up_by chip w) 0 off
  commit_fails : {chip : Chip} {cuts : ℕ} {look : Look} {s w : ℕ} → Life n extra chip cuts (filled look s w) → Life n extra (put chip w (copy_of (chip w) (chip w).era (chip w).key written torn true)) cuts (rising look s)
  commit_cut : {chip : Chip} {cuts : ℕ} {look : Look} {s w : ℕ} → Life n extra chip cuts (filled look s w) → cuts + 1 < good_slots n chip + extra → Life n extra (put chip w (copy_of (chip w) (chip w).era (chip w).key written torn false)) (cuts + 1) off
  -- or the cut comes between two asks
  stops : {chip : Chip} {cuts : ℕ} {p : Phase} → Life n extra chip cuts p → On p → cuts + 1 < good_slots n chip + extra → Life n extra chip (cuts + 1) off

-- 1. While fewer comings-up in a row were cut than there are good slots: however it looks, some slot is believed, and whichever is
-- believed is whole but for its commit page and holds what was told last.
abbrev pub Recovers : Type 0
Recovers =
    (n : ℕ) (chip : Chip) (cuts : ℕ) → Life n 0 chip cuts off → (look : Look) → ((s : ℕ) × Believed n chip look s) × ((s : ℕ) → Believed n chip look s → ((chip s).body ≡ written) × ((chip s).current ≡ true))

-- 2. A slot that failed got its key when fewer had failed: a key that is given now is above it, even where it can't be read.
abbrev pub FailedBelow : Type 0
FailedBelow =
    (n extra : ℕ) (chip : Chip) (cuts : ℕ) (p : Phase) → Life n extra chip cuts p → (i : ℕ) → i < n → (chip i).bad ≡ true → (chip i).era < bad_slots n chip

-- 3. One cut more, and nothing may be left to believe.
abbrev pub OneCutMore : Type 0
OneCutMore = (chip : Chip) × (cuts : ℕ) × Life 2 1 chip cuts off × (look : Look) × ((s : ℕ) → s < 2 → Committed chip look s → ⊥)
