-- How chips come to be.
use Rattle.std.specs.Prelude.{◌≡◌, ℕ, ◌*◌, ◌%◌, ◌<◌, ◌≤◌, Bool, true, false, ◌||◌, ◌⊎◌, List, [], ◌∷◌, length, ◌==◌, ◌≢◌, slice_index}
use Rattle.drive.specs.Nand.{Nand, Blank, New, bads}
use Rattle.bench.specs.declared.memory.BlockCell.{BlockCell}
use Rattle.bench.specs.declared.make.Refusal.{Refusal}
use Rattle.bench.specs.declared.make.Refusal.TheVariants.{Blocks, Pages, Space, NoSuchBlock, TooManyBad}
use Rattle.bench.specs.declared.memory.ChipMemory.{ChipMemory}
use Rattle.bench.specs.declared.memory.Geometry.{Geometry}
use Rattle.bench.specs.declared.store.Store.{Store}
use Rattle.bench.specs.Held.{fits, block_with}

-- a geometry of the data sheet
pub record OnSheet (blocks pages : ℕ) : Type 0 where
  pub some_blocks : 32 ≤ blocks
  pub few_blocks : blocks ≤ 65536
  pub some_pages : 16 ≤ pages
  pub few_pages : pages ≤ 256
  pub eights : pages % 8 ≡ 0

-- a store over memory that is as it was lent
pub record Resumed (s : Store) (m : ChipMemory) (g : Geometry) : Type 0 where
  pub memory_is : s.memory ≡ m
  pub geometry_is : s.geometry ≡ g
  pub on_is : s.on ≡ true
  pub left_is : s.left ≡ 0
  pub sheet : OnSheet g.blocks g.pages
  pub space : fits m g ≡ true

-- why memory and a geometry make no chip
abbrev pub Unfit : Refusal → ChipMemory → Geometry → Type 0
Unfit Blocks m g = (g.blocks < 32) ⊎ (65536 < g.blocks)
Unfit Pages m g = (g.pages < 16) ⊎ ((256 < g.pages) ⊎ (g.pages % 8 ≢ 0))
Unfit Space m g = fits m g ≡ false
Unfit NoSuchBlock m g = ⊥
Unfit TooManyBad m g = ⊥

-- whether a block's number stands in a list
unfoldable pub listed : List ℕ → ℕ → Bool
listed [] k = false
listed (b ∷ bs) k = k == b || listed bs k

-- the record of a block as it comes from the maker
abbrev pub marked : Bool → BlockCell
marked b = record { next = 0; clean = false; bad = b; erases = 0 }

-- why a list of bad blocks makes no chip
abbrev pub Misfit : Refusal → ℕ → List ℕ → Type 0
Misfit Blocks blocks bad = ⊥
Misfit Pages blocks bad = ⊥
Misfit Space blocks bad = ⊥
Misfit NoSuchBlock blocks bad = (i : ℕ) × (i < length bad) × (blocks ≤ slice_index bad i)
Misfit TooManyBad blocks bad = blocks < 16 * bads blocks (λ k. block_with (λ p. Blank) (marked (listed bad k)))

-- a new chip of a geometry whose bad blocks are those of a list
pub record Fresh (n : Nand) (blocks pages : ℕ) (bad : List ℕ) : Type 0 where
  pub new : New n
  pub blocks_are : n.blocks ≡ blocks
  pub pages_are : n.pages ≡ pages
  pub bad_are : (k : ℕ) → k < blocks → (n.block k).bad ≡ listed bad k
