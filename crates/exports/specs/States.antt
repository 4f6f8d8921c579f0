-- The states of pages as bytes, as C lends them.
use Rattle.std.specs.Prelude.{◌≡◌, ℕ, ◌<◌, cond, List, ◌==◌, slice_index, slice_index_or}
use Rattle.bench.specs.declared.memory.PageState.{PageState}
use Rattle.bench.specs.declared.memory.PageState.TheVariants as state

-- the state that a byte stands for
abbrev pub state_of : ℕ → PageState
state_of b = cond (b == 0) state.Blank (cond (b == 1) state.Written state.Torn)

-- so many bytes stand for these states
abbrev pub StandFor : ℕ → List ℕ → List PageState → Type 0
StandFor n bytes states = (k : ℕ) → k < n → state_of (slice_index bytes k) ≡ slice_index_or states k state.Blank
