-- Which header comes after which.
-- Assumes nothing.
use Rattle.std.specs.Prelude.{Bool, cond, ◌&&◌, ◌||◌, Some, None, Option, ◌==◌, nat_lt}
use Rattle.drive.specs.declared.survey.Candidate.{Candidate}

-- more blocks were bad when it was taken, or as many and its number is higher
abbrev pub newer : Candidate → Candidate → Bool
newer a b = nat_lt b.age.bad a.age.bad || (a.age.bad == b.age.bad && nat_lt b.age.number a.age.number)

-- the newer of the two; of equals the second
abbrev pub best_of : Option Candidate → Candidate → Candidate
best_of None b = b
best_of (Some a) b = cond (newer a b) a b
