-- What is printed.
-- Assumes nothing.
use Rattle.std.specs.Prelude.{ℕ, List, ◌++◌, codes, decimal}
use Rattle.drive.specs.Nand.{Nand}
use Rattle.bench.specs.Store.{least, most}
use Rattle.output.specs.Digits.{pair_line}

-- the answer to a line that is no command
abbrev pub bad_line : ℕ → List ℕ
bad_line n = codes "line " ++ (decimal n ++ codes "?\n")

-- the fewest and the most erasings of blocks that aren't bad
abbrev pub erased_line : Nand → List ℕ
erased_line n = pair_line (codes "erased ") (least n.blocks n.block) (most n.blocks n.block)
