-- A line that comes byte by byte.
-- Assumes nothing.
use Rattle.std.specs.Prelude.{ℕ, List, take}

-- what a buffer keeps of the line l: all of it, or one byte more than any command has
abbrev pub kept : List ℕ → List ℕ
kept l = take 41 l
