-- The chip that a store holds.
use Rattle.std.specs.Prelude.{ℕ, zero, suc, ◌+◌, ◌*◌, ◌≤◌, ◌⊎◌, min, max, cond}
use Rattle.drive.specs.Nand.{Nand, Block, bads}
use Rattle.bench.specs.Held.{nand_of, limit}
use Rattle.bench.specs.declared.store.Store.{Store}

-- the store as the data sheet has it
abbrev pub held : Store → Nand
held s = nand_of s.memory.bytes.now s.memory.states.now s.memory.cells.now s.geometry.blocks s.geometry.pages s.on s.left

-- whether the data sheet lets a block that was erased e times go bad
abbrev pub MayGoBad : Nand → ℕ → Type 0
MayGoBad n e = (16 * (bads n.blocks n.block + 1) ≤ n.blocks) ⊎ (3000 ≤ e)

-- the fewest erasings of those of n blocks that aren't bad
unfoldable pub least : ℕ → (ℕ → Block) → ℕ
least zero f = limit
least (suc n) f = cond (f n).bad (least n f) (min (least n f) (f n).erases)

-- the most erasings of those of n blocks that aren't bad
unfoldable pub most : ℕ → (ℕ → Block) → ℕ
most zero f = 0
most (suc n) f = cond (f n).bad (most n f) (max (most n f) (f n).erases)
