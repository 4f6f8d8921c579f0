-- Which commands are turned away before anything is done for them.
-- Assumes nothing.
use Rattle.std.specs.Prelude.{ℕ, ◌+◌, Bool, false, cond, ◌||◌, Some, None, Ok, Err, Option, Result, ◌==◌, nat_le, nat_lt, slice_index_or}
use Rattle.refusals.specs.declared.Tags.{Tags}
use Rattle.refusals.specs.declared.Span.{Span}
use Rattle.refusals.specs.declared.Refusal.{Refusal}
use Rattle.refusals.specs.declared.Refusal.TheVariants.{Tag, Count, Range, WornOut, NotBuilt}

-- the number that is told for a reason
abbrev pub number : Refusal → ℕ
number Tag = 1
number Count = 2
number Range = 3
number WornOut = 4
number NotBuilt = 5

-- the same of an answer, 0 where nothing is refused
abbrev pub answered : {A : Type 0} → Result A Refusal → ℕ
answered (Ok x) = 0
answered (Err r) = number r

-- whether a tag is among those under way
abbrev pub has : Tags → ℕ → Bool
has g t = slice_index_or g.flags t false

-- 2 for no sector or more than 8, 3 beyond the last, else 0
abbrev pub outside : (size from many : ℕ) → ℕ
outside size from many = cond (many == 0 || nat_lt 8 many) 2 (cond (nat_lt size (from + many)) 3 0)

-- the same of the sectors of a command, if it names any
abbrev pub unfit : ℕ → Option Span → ℕ
unfit size None = 0
unfit size (Some s) = outside size s.from s.many

-- 1 for a tag that isn't one or is taken, else what is wrong with the sectors
abbrev pub refusal : (size : ℕ) → (taken : Bool) → (t : ℕ) → Option Span → ℕ
refusal size taken t s = cond (nat_le 8 t || taken) 1 (unfit size s)
