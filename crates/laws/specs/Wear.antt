-- Wear of the blocks: always the free block with the lowest number is taken, and numbered one above the highest.
-- Assumes nothing.
use Rattle.std.specs.Prelude.{◌≡◌, ℕ, zero, suc, ◌+◌, ◌*◌, ◌<◌, ◌≤◌, cond, ◌==◌, ◌≢◌}

-- a block is free, used by the log, or bad
pub data Place : Type 0 where
  free used bad : Place

-- the block hasn't failed
abbrev pub Good : Place → Type 0
Good p = p ≡ bad → ⊥

-- A block: its number, how often it was taken and erased, and how many of these erasings cuts cost, by a bound.
pub record Block : Type 0 where
  pub place : Place
  pub number : ℕ
  pub taken : ℕ
  pub erased : ℕ
  pub cost : ℕ

-- All blocks, the highest number that was given, and how many takings there were.
pub record Wear : Type 0 where
  pub block : ℕ → Block
  pub top : ℕ
  pub takings : ℕ

-- a chip on which nothing was taken
abbrev pub unworn : Wear
unworn = record { block = λ b. record { place = free; number = 0; taken = 0; erased = 0; cost = 0 }; top = 0; takings = 0 }

-- f, but v at b
abbrev pub put : {A : Type 0} → (ℕ → A) → ℕ → A → ℕ → A
put f b v x = cond (x == b) v (f x)

-- w, but with the block v at b
abbrev pub with_block : Wear → ℕ → Block → Wear
with_block w b v = record { block = put w.block b v; top = w.top; takings = w.takings }

-- b is free, and no free block has a lower number
abbrev pub Next : (blocks : ℕ) → Wear → ℕ → Type 0
Next blocks w b = (b < blocks) × ((w.block b).place ≡ free) × ((x : ℕ) → x < blocks → (w.block x).place ≡ free → (w.block b).number ≤ (w.block x).number)

-- a block that is taken: it is erased, gets the number n, and is used
abbrev pub as_taken : ℕ → Block → Block
as_taken n v = record { place = used; number = n; taken = v.taken + 1; erased = v.erased + 1; cost = v.cost }

-- a block that moves to another place; a cut may have cost so much
abbrev pub moved : Place → ℕ → Block → Block
moved p more v = record { place = p; number = v.number; taken = v.taken; erased = v.erased; cost = v.cost + more }

-- a free block that is erased but not taken, and numbered n; cuts cost so much
abbrev pub cleared : ℕ → ℕ → Block → Block
cleared n more v = record { place = free; number = n; taken = v.taken; erased = v.erased + 1; cost = v.cost + more }

-- b is taken
abbrev pub take_block : Wear → ℕ → Wear
take_block w b = record { block = put w.block b (as_taken (w.top + 1) (w.block b)); top = w.top + 1; takings = w.takings + 1 }

-- One step of the drive.
pub data Step (blocks : ℕ) (w : Wear) : Wear → Type 0 where
  takes : (b : ℕ) → Next blocks w b → Step blocks w (take_block w b)
  -- the oldest block of the log is freed: in order
  frees : (b : ℕ) → b < blocks → (w.block b).place ≡ used → ((x : ℕ) → x < blocks → (w.block x).place ≡ used → (w.block b).number ≤ (w.block x).number) → Step blocks w (with_block w b (moved free 0 (w.block b)))
  -- after a cut another than the oldest is freed, and will be taken once too early
  drops : (b : ℕ) → b < blocks → (w.block b).place ≡ used → Step blocks w (with_block w b (moved free 1 (w.block b)))
  -- after a cut a free block whose number can't be read is erased and numbered 0: one erasing, and one taking too early
  voids : (b : ℕ) → b < blocks → (w.block b).place ≡ free → Step blocks w (with_block w b (cleared 0 2 (w.block b)))
  -- an erasing is cut, and has to be made again
  wastes : (b : ℕ) → b < blocks → (w.block b).place ≡ free → Step blocks w (with_block w b (cleared (w.block b).number 1 (w.block b)))
  fails : (b : ℕ) → b < blocks → Step blocks w (with_block w b (moved bad 0 (w.block b)))

-- any number of steps
pub data Steps (blocks : ℕ) (w : Wear) : Wear → Type 0 where
  none : Steps blocks w w
  more : {u v : Wear} → Steps blocks w u → Step blocks u v → Steps blocks w v

-- 1. Between two takings of a block that no cut cost anything meanwhile, all other good blocks were taken.
abbrev pub TakenInTurn : Type 0
TakenInTurn =
    (blocks : ℕ) (w : Wear) → Steps blocks unworn w → (b : ℕ) → Next blocks w b → (v : Wear) → Steps blocks (take_block w b) v → (v.block b).taken ≡ ((take_block w b).block b).taken → (v.block b).cost ≡ (w.block b).cost → Next blocks v b → (x : ℕ) → x < blocks → (x ≢ b) → Good (v.block x).place → (w.block x).taken < (v.block x).taken

-- 2. No good block was erased more often than another was taken, but for one time and what cuts cost.
abbrev pub WornEvenly : Type 0
WornEvenly =
    (blocks : ℕ) (w : Wear) → Steps blocks unworn w → (b x : ℕ) → b < blocks → x < blocks → Good (w.block b).place → Good (w.block x).place → (w.block b).erased ≤ (w.block x).taken + (w.block b).cost + 1

-- one more if the block is good
abbrev pub counted : Place → ℕ → ℕ
counted free n = suc n
counted used n = suc n
counted bad n = n

-- how many of the first n blocks are good
unfoldable pub count_good : ℕ → (ℕ → Block) → ℕ
count_good zero f = 0
count_good (suc n) f = counted (f n).place (count_good n f)

-- 3. So the erasings of a good block, but for one and for what cuts cost, times the good blocks are fewer than the takings.
-- Good blocks never become more: those that are left are the fewest so far.
abbrev pub WearBounded : Type 0
WearBounded =
    (blocks : ℕ) (w : Wear) → Steps blocks unworn w → (b : ℕ) → b < blocks → Good (w.block b).place → count_good blocks w.block * (w.block b).erased < w.takings + count_good blocks w.block * ((w.block b).cost + 1)
