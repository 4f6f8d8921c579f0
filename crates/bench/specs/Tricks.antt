-- What a reading may show.
use Rattle.std.specs.Prelude.{◌≡◌, ℕ, ◌+◌, T, List, Option, None, Some}
use Rattle.drive.specs.Bits.{under}
use Rattle.bench.specs.declared.tricks.Mode.{Mode}
use Rattle.bench.specs.declared.tricks.Mode.TheVariants.{Plain, Random, Adversarial}
use Rattle.bench.specs.declared.memory.PageState.{PageState}
use Rattle.bench.specs.declared.memory.PageState.TheVariants.{Blank, Written, Torn}

-- a page of this state that holds bytes a is shown as b, before bits turn over
abbrev pub Showing : PageState → List ℕ → List ℕ → Type 0
Showing Blank a b = b ≡ a
Showing Written a b = b ≡ a
Showing Torn a b = T (under a b)

-- the seed that a mode chooses by
abbrev pub seed_of : Mode → ℕ
seed_of Plain = 0
seed_of (Random s) = s
seed_of (Adversarial s) = s

-- the number of the ask in whose midst the power goes, from 1 on; 0 where it goes in none
abbrev pub ask_of : Option ℕ → ℕ
ask_of None = 0
ask_of (Some n) = n + 1
