-- What lent memory holds, as the data sheet has it.
use Rattle.std.specs.Prelude.{ℕ, ◌+◌, ◌*◌, Bool, true, false, cond, ◌&&◌, ◌||◌, List, length, take, drop, ◌==◌, nat_le, nat_lt, slice_index_or}
use Rattle.drive.specs.Nand.{Nand, Block, Page, Blank, Written, Torn}
use Rattle.drive.specs.declared.Answer.{Answer}
use Rattle.drive.specs.declared.Answer.TheVariants.{Fine, Failed, Dark}
use Rattle.bench.specs.declared.memory.PageState.{PageState}
use Rattle.bench.specs.declared.memory.PageState.TheVariants as state
use Rattle.bench.specs.declared.memory.BlockCell.{BlockCell}
use Rattle.bench.specs.declared.memory.ChipMemory.{ChipMemory}
use Rattle.bench.specs.declared.memory.Geometry.{Geometry}

-- the counter's limit: a block that was erased so often is bad
abbrev pub limit : ℕ
limit = 4294967295

-- the bytes of the page at place i
abbrev pub slot : List ℕ → ℕ → List ℕ
slot bytes i = take 4352 (drop (4352 * i) bytes)

-- the state of the page at place i
abbrev pub state_at : List PageState → ℕ → PageState
state_at states i = slice_index_or states i state.Blank

-- the record of a block that nobody has touched
abbrev pub untouched : BlockCell
untouched = record { next = 0; clean = false; bad = false; erases = 0 }

-- the record of block k
abbrev pub cell_at : List BlockCell → ℕ → BlockCell
cell_at cells k = slice_index_or cells k untouched

-- whether a block is bad by its record: after a failure, or where its counter has ended
abbrev pub bad_cell : BlockCell → Bool
bad_cell c = c.bad || (c.erases == limit)

-- the record of a block after an erasing
abbrev pub erased_cell : BlockCell → BlockCell
erased_cell c = record c { next = 0; clean = true; erases = c.erases + 1 }

-- the record of a block after an erasing that didn't end
abbrev pub half_erased_cell : BlockCell → BlockCell
half_erased_cell c = record c { clean = false; erases = c.erases + 1 }

-- the record of a block after the programming of page p
abbrev pub programmed_cell : ℕ → BlockCell → BlockCell
programmed_cell p c = record c { next = p + 1 }

-- the record of a block after a failure
abbrev pub broken_cell : BlockCell → BlockCell
broken_cell c = record c { clean = false; bad = true }

-- the state of a page of a block whose erasing didn't end
abbrev pub frayed_state : PageState → PageState
frayed_state state.Blank = state.Blank
frayed_state state.Written = state.Torn
frayed_state state.Torn = state.Torn

-- the state of a page of a block whose erasing was answered so
abbrev pub worn_state : Answer → PageState → PageState
worn_state Fine s = state.Blank
worn_state Failed s = frayed_state s
worn_state Dark s = frayed_state s

-- the record of a block whose erasing was answered so
abbrev pub worn_cell : Answer → BlockCell → BlockCell
worn_cell Fine c = erased_cell c
worn_cell Failed c = broken_cell (half_erased_cell c)
worn_cell Dark c = half_erased_cell c

-- the state of a page whose programming was answered so
abbrev pub filled_state : Answer → PageState
filled_state Fine = state.Written
filled_state Failed = state.Torn
filled_state Dark = state.Torn

-- the record of a block of which programming page p was answered so
abbrev pub filled_cell : Answer → ℕ → BlockCell → BlockCell
filled_cell Fine p c = programmed_cell p c
filled_cell Failed p c = broken_cell (programmed_cell p c)
filled_cell Dark p c = programmed_cell p c

-- whether the power is still on after an answer
abbrev pub still_on : Answer → Bool
still_on Fine = true
still_on Failed = true
still_on Dark = false

-- the page that a state and bytes make
abbrev pub shaped : PageState → List ℕ → Page
shaped state.Blank bs = Blank
shaped state.Written bs = Written bs
shaped state.Torn bs = Torn bs

-- the page at place i
abbrev pub page_at : List ℕ → List PageState → ℕ → Page
page_at bytes states i = shaped (state_at states i) (slot bytes i)

-- the block of these pages and this record
abbrev pub block_with : (ℕ → Page) → BlockCell → Block
block_with page c = record { page = page; next = c.next; clean = c.clean; erases = c.erases; bad = bad_cell c }

-- the block of this record whose pages stand from place i on
abbrev pub block_from : List ℕ → List PageState → (pages i : ℕ) → BlockCell → Block
block_from bytes states pages i c = block_with (λ p. cond (nat_lt p pages) (page_at bytes states (i + p)) Blank) c

-- a block past the last one
abbrev pub no_block : Block
no_block = record { page = λ p. Blank; next = 0; clean = false; erases = 0; bad = false }

-- whether memory of these lengths has space for a chip of a geometry
unfoldable pub spaced : (bytes states cells blocks pages : ℕ) → Bool
spaced bytes states cells blocks pages = nat_le blocks 65536 && (nat_le pages 256 && (nat_le blocks cells && (nat_le (blocks * pages) states && nat_le (4352 * (blocks * pages)) bytes)))

-- whether memory has space for a chip of a geometry
abbrev pub fits : ChipMemory → Geometry → Bool
fits m g = spaced (length m.bytes.now) (length m.states.now) (length m.cells.now) g.blocks g.pages

-- the chip; one whose memory has no space for it has no blocks
abbrev pub nand_of : List ℕ → List PageState → List BlockCell → (blocks pages : ℕ) → (on : Bool) → (left : ℕ) → Nand
nand_of bytes states cells blocks pages on left = record {
  blocks = cond (spaced (length bytes) (length states) (length cells) blocks pages) blocks 0;
  pages = pages;
  block = λ k. cond (nat_lt k blocks) (block_from bytes states pages (k * pages) (cell_at cells k)) no_block;
  on = on;
  left = left;
}
