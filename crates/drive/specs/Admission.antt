-- Which commands are turned away before anything is done for them, in terms of what whoever asks has seen.
-- Assumes nothing.
use Rattle.std.specs.Prelude.{◌≡◌, ℕ, ◌<◌, cond, ◌==◌, nat_eq}
use Rattle.refusals.specs.Refusals.{has}
use Rattle.refusals.specs.declared.Tags.{Tags}
use Rattle.drive.specs.Bits.{some'}
use Rattle.drive.specs.Host.{Cmd, Way, Seen, why}
use Rattle.drive.specs.Promise.{can}
use Rattle.drive.specs.declared.Ask.{Ask}
use Rattle.drive.specs.declared.Ask.TheVariants.{Read, Write, Trim, Flush}

-- how many sectors a command names
abbrev pub many_of : Ask → ℕ
many_of (Read from many) = many
many_of (Write from many) = many
many_of (Trim from many) = many
many_of Flush = 0

-- they are the tags of the commands under way
abbrev pub Names : Tags → Seen → Type 0
Names g h = (t : ℕ) → t < 8 → has g t ≡ some' (λ (w : Way). nat_eq t w.tag) h.ways

-- why a command is turned away, then 5 where it isn't built, and 0 where it may begin
abbrev pub refused : ℕ → Seen → ℕ → Cmd → ℕ
refused size h t c = cond (why size h t c == 0) (cond (can c) 0 5) (why size h t c)
