-- The commands under way, as the code keeps them.
-- Assumes nothing.
use Rattle.std.specs.Prelude.{◌≡◌, ℕ, ◌+◌, ◌-◌, ◌*◌, ◌^◌, ◌<◌, ◌≤◌, min, Bool, true, false, cond, ◌&&◌, List, take, drop, Some, None, Ok, Err, Option, Result, ◌==◌, nat_eq, is_some, slice_index_or}
use Rattle.std.specs.List.{between}
use Rattle.refusals.specs.declared.Refusal.{Refusal}
use Rattle.drive.specs.Bits.{some'}
use Rattle.drive.specs.Host.{Cmd, Way, Seen, changes, why}
use Rattle.drive.specs.declared.Ask.{Ask}
use Rattle.drive.specs.declared.Ask.TheVariants.{Write}
use Rattle.drive.specs.declared.queue.Pending.{Pending}
use Rattle.drive.specs.declared.queue.Queue.{Queue}
use Rattle.drive.specs.declared.tag.Tag.{Tag}

-- the command under a tag, if one is under way there
abbrev pub slot_at : Queue → ℕ → Option Pending
slot_at q t = slice_index_or q.slots t None

-- whether one is
abbrev pub busy : Option Pending → Bool
busy s = is_some s

-- how many commands came before it
abbrev pub came : Option Pending → ℕ
came None = 0
came (Some p) = p.since

-- one slot is put, and nothing else changes
pub record Puts (q : Queue) (tag : ℕ) (s : Option Pending) (p : Queue) : Type 0 where
  pub slots : (t : ℕ) → t < 8 → slot_at p t ≡ cond (t == tag) s (slot_at q t)
  pub arrivals : p.arrivals ≡ q.arrivals

-- a command comes, none of it done
pub record Adds (q : Queue) (tag : ℕ) (a : Ask) (p : Queue) : Type 0 where
  pub slots : (t : ℕ) → t < 8 → slot_at p t ≡ cond (t == tag) (Some (record { ask = a; taken = 0; since = q.arrivals })) (slot_at q t)
  pub arrivals : p.arrivals ≡ min (q.arrivals + 1) (2 ^ 64 - 1)

-- the one under t came before the one under u; of two that came at once the lower tag is first
abbrev pub Before : Queue → ℕ → ℕ → Type 0
Before q t u = (came (slot_at q t) ≤ came (slot_at q u)) × (u < t → came (slot_at q t) < came (slot_at q u))

-- the tag below n whose command came first, if there is one
abbrev pub First : Queue → ℕ → Option ℕ → Type 0
First q n None = (u : ℕ) → u < n → busy (slot_at q u) ≡ false
First q n (Some t) = (t < n) × (busy (slot_at q t) ≡ true) × ((u : ℕ) → u < n → busy (slot_at q u) ≡ true → Before q t u)

-- the busy tags are those of the commands under way
abbrev pub Under : Queue → Seen → Type 0
Under q h = (t : ℕ) → t < 8 → busy (slot_at q t) ≡ some' (λ (w : Way). nat_eq t w.tag) h.ways

-- why a command is turned away, then 4 where it changes something and the drive is worn out, and 0 where it begins
abbrev pub verdict : Bool → ℕ → Seen → ℕ → Cmd → ℕ
verdict worn size h t c = cond (why size h t c == 0) (cond (worn && changes c) 4 0) (why size h t c)

-- by what is answered: the command stands in the queue, or it is refused and all is as before
abbrev pub Settles : Result Tag Refusal → Queue → ℕ → Ask → Queue → Type 0
Settles (Ok t) q tag a p = (t.number ≡ tag) × (tag < 8) × Adds q tag a p
Settles (Err why) q tag a p = p ≡ q

-- the first n of some bytes stand at a place, and all else is as before
pub record Stores (xs : List ℕ) (at n : ℕ) (bs ys : List ℕ) : Type 0 where
  pub here : between at (at + n) ys ≡ take n bs
  pub front : take at ys ≡ take at xs
  pub back : drop (at + n) ys ≡ drop (at + n) xs

-- what a command that begins leaves of the room: a write's sectors in the part that belongs to its tag
abbrev pub Keeps : List ℕ → ℕ → Ask → List ℕ → List ℕ → Type 0
Keeps room tag (Write from many) bs kept = Stores room (32768 * tag) (4096 * many) bs kept
Keeps room tag _ bs kept = kept ≡ room
