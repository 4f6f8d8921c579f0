-- The pieces of a page.
use Rattle.std.specs.Prelude.{ℕ, ◌*◌, List, take, drop}

-- piece j of a page
abbrev pub piece_at : List ℕ → ℕ → List ℕ
piece_at page j = take 256 (drop (256 * j) page)
