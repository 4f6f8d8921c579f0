-- What a counter of events becomes.
use Rattle.std.specs.Prelude.{ℕ, ◌+◌, ◌-◌, ◌^◌, min}
use Rattle.drive.specs.declared.Answer.{Answer}
use Rattle.drive.specs.declared.Answer.TheVariants.{Fine, Failed, Dark}
use Rattle.bench.specs.declared.events.Tries.{Tries}
use Rattle.bench.specs.declared.events.Shown.{Shown}
use Rattle.bench.specs.declared.events.View.{View}
use Rattle.bench.specs.declared.events.View.TheVariants as view

-- one more, as far as 64 bits reach
abbrev pub more : ℕ → ℕ
more n = min (n + 1) (2 ^ 64 - 1)

-- with one more ask, that was answered so
abbrev pub noted : Answer → Tries → Tries
noted Fine t = record t { made = more t.made }
noted Failed t = record t { made = more t.made; failed = more t.failed }
noted Dark t = record t { made = more t.made; cut = more t.cut }

-- with one more torn page that was shown so
abbrev pub shown : View → Shown → Shown
shown view.Whole s = record s { whole = more s.whole }
shown view.Part s = record s { part = more s.part }
shown view.Blank s = record s { blank = more s.blank }
