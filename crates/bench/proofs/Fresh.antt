-- A chip as it comes from the maker. Assumes nothing.
use Rattle.std.proofs.Common.{◌≡◌, ℕ, zero, suc, ◌+◌, ◌-◌, ◌*◌, ◌<◌, ◌≤◌, Bool, true, false, cond, ◌||◌, eqb, ltb, List, [], ◌∷◌, ◌++◌, length, get_or, take, replicate, sym, refl, ap, ◌∙◌, ap₂, inl, inr, arith}
use Rattle.std.proofs.lemmas.List.{take_more, length-take-le, get_or-replicate, length-replicate}
use borrow.Rule.Slice.PartMut.{put_mid}
use Rattle.std.proofs.lemmas.Bool.{cases_Bool, cases_eq, cond-true, cond-false, lt-ltb, ltb-true, eq-eqb, ne_eqb}
use Rattle.drive.specs.Nand.{Nand, Block, Blank, bads}
use Rattle.bench.specs.declared.memory.PageState.{PageState}
use Rattle.bench.specs.declared.memory.PageState.TheVariants as state
use Rattle.bench.specs.declared.memory.BlockCell.{BlockCell}
use Rattle.bench.specs.declared.make.Refusal.TheVariants.{TooManyBad}
use Rattle.bench.specs.Held.{spaced, slot, state_at, cell_at, shaped, page_at, block_with, block_from, no_block, nand_of, untouched, limit}
use Rattle.bench.specs.Made.{OnSheet, Fresh, Misfit, listed, marked}
use Rattle.bench.proofs.Space.{row_end, space_parts}
use Rattle.bench.proofs.Rows.{front_long, front_at}
use Rattle.std.proofs.lemmas.Float.{T_from_true}
use Rattle.std.proofs.Math.Bool.{or_assoc, or-true, or-false}

-- ---- the list of bad blocks

listed_push : (xs : List ℕ) (x k : ℕ) → listed (xs ++ x ∷ []) k ≡ (listed xs k || eqb k x)
unfolding listed
listed_push [] x k = or-false (eqb k x)
listed_push (y ∷ xs) x k = ap (λ (t : Bool). eqb k y || t) (listed_push xs x k) ∙ sym (or_assoc (eqb k y) (listed xs k) (eqb k x))

pub listed_none : (k : ℕ) → false ≡ listed [] k
unfolding listed
listed_none k = refl

-- one block of the list further
pub mark_more : (bad : List ℕ) (i b blocks : ℕ) (cells next : List BlockCell) → i < length bad → b ≡ get_or bad i 0
    → ((k : ℕ) → k < blocks → cell_at cells k ≡ marked (listed (take i bad) k))
    → cell_at next b ≡ marked true → ((k : ℕ) → (k ≡ b → ⊥) → cell_at next k ≡ cell_at cells k)
    → (k : ℕ) → k < blocks → cell_at next k ≡ marked (listed (take (i + 1) bad) k)
mark_more bad i b blocks cells next h is inv here others k l =
    let more : listed (take (i + 1) bad) k ≡ (listed (take i bad) k || eqb k b) =
    ap (λ (xs : List ℕ). listed xs k) (take_more bad i 0 h) ∙ listed_push (take i bad) (get_or bad i 0) k ∙ ap (λ (x : ℕ). listed (take i bad) k || eqb k x) (sym is) in
    elim (cases_eq k b) [
      | inl e ↦ ap (cell_at next) e ∙ here ∙ ap marked (sym (more ∙ ap (λ (t : Bool). listed (take i bad) k || t) (eq-eqb k b e) ∙ or-true (listed (take i bad) k)))
      | inr ne ↦ others k ne ∙ inv k l ∙ ap marked (sym (more ∙ ap (λ (t : Bool). listed (take i bad) k || t) (ne_eqb k b ne) ∙ or-false (listed (take i bad) k)))
    ]

-- ---- the chip

bads-same : (n : ℕ) (f g : ℕ → Block) → ((k : ℕ) → k < n → (f k).bad ≡ (g k).bad) → bads n f ≡ bads n g
unfolding bads
bads-same zero f g h = refl
bads-same (suc n) f g h =
    let one : Bool → ℕ = λ t. cond t 1 0 in
    omega (arith, ap one (h n (omega arith)), bads-same n f g (λ k l. h k (omega arith)))

module _ (bytes : List ℕ) (states : List PageState) (cells : List BlockCell) (blocks pages left : ℕ) (on : Bool) (bad : List ℕ)
    (blank : (i : ℕ) → i < blocks * pages → state_at states i ≡ state.Blank) (cells_are : (k : ℕ) → k < blocks → cell_at cells k ≡ marked (listed bad k)) where
  abbrev chip : Nand
  chip = nand_of bytes states cells blocks pages on left

  pub fresh-block : (k : ℕ) → ((chip.block k).clean ≡ false) × ((chip.block k).erases ≡ 0) × ((chip.block k).next ≡ 0) × ((p : ℕ) → (chip.block k).page p ≡ Blank)
  fresh-block k =
      elim (cases_Bool (ltb k blocks)) [
        | inl e ↦
            let low = ltb-true k blocks e in
            let is : chip.block k ≡ block_from bytes states pages (k * pages) (marked (listed bad k)) =
            cond-true (ltb k blocks) _ _ e ∙ ap (λ (c : BlockCell). block_from bytes states pages (k * pages) c) (cells_are k low) in
            let page : (p : ℕ) → cond (ltb p pages) (page_at bytes states (k * pages + p)) Blank ≡ Blank = λ p.
            elim (cases_Bool (ltb p pages)) [
              | inl f ↦ cond-true (ltb p pages) _ _ f ∙ ap (λ (s : PageState). shaped s (slot bytes (k * pages + p))) (blank (k * pages + p) (omega (arith, row_end k blocks pages low, ltb-true p pages f)))
              | inr f ↦ cond-false (ltb p pages) _ _ f
            ] in
            (ap (λ (b : Block). b.clean) is, ap (λ (b : Block). b.erases) is, ap (λ (b : Block). b.next) is, λ p. ap (λ (b : Block). b.page p) is ∙ page p)
        | inr e ↦
            let is : chip.block k ≡ no_block = cond-false (ltb k blocks) _ _ e in
            (ap (λ (b : Block). b.clean) is, ap (λ (b : Block). b.erases) is, ap (λ (b : Block). b.next) is, λ p. ap (λ (b : Block). b.page p) is)
      ]

  pub fresh : OnSheet blocks pages → spaced (length bytes) (length states) (length cells) blocks pages ≡ true → on ≡ true → 16 * bads chip.blocks chip.block ≤ blocks → Fresh chip blocks pages bad
  fresh sheet space lit few =
      let n : chip.blocks ≡ blocks = cond-true (spaced (length bytes) (length states) (length cells) blocks pages) blocks 0 space in
      record {
        new = (omega (arith, sheet.some_blocks), omega (arith, sheet.few_blocks), sheet.some_pages, sheet.few_pages, sheet.eights, omega arith, T_from_true on lit, fresh-block);
        blocks_are = n;
        pages_are = refl;
        bad_are = λ k l.
            ap (λ (b : Block). b.bad) (cond-true (ltb k blocks) _ _ (lt-ltb k blocks l))
            ∙ ap (λ (c : BlockCell). c.bad || eqb c.erases limit) (cells_are k l) ∙ or-false (listed bad k);
      }

  bad-is : (k : ℕ) → k < blocks → (chip.block k).bad ≡ (listed bad k || false)
  bad-is k l = ap (λ (b : Block). b.bad) (cond-true (ltb k blocks) _ _ (lt-ltb k blocks l)) ∙ ap (λ (c : BlockCell). c.bad || eqb c.erases limit) (cells_are k l)

  pub too_many : spaced (length bytes) (length states) (length cells) blocks pages ≡ true → blocks < 16 * bads chip.blocks chip.block → Misfit TooManyBad blocks bad
  too_many space many =
      let n : chip.blocks ≡ blocks = cond-true (spaced (length bytes) (length states) (length cells) blocks pages) blocks 0 space in
      omega (arith, ap (λ (m : ℕ). bads m chip.block) n, bads-same blocks chip.block (λ k. block_with (λ p. Blank) (marked (listed bad k))) bad-is)

-- ---- memory whose first states and records were written anew

module _ (bytes : List ℕ) (states front : List PageState) (cells marks : List BlockCell) (blocks pages left : ℕ) (on : Bool) (bad : List ℕ)
    (space : spaced (length bytes) (length states) (length cells) blocks pages ≡ true)
    (blank : front ≡ replicate (length (take (blocks * pages - 0) states)) state.Blank)
    (marks_long : length marks ≡ length (take (blocks - 0) cells)) (marks_are : (k : ℕ) → k < length (take (blocks - 0) cells) → cell_at marks k ≡ marked (listed bad k)) where
  abbrev states' : List PageState
  states' = put_mid 0 (blocks * pages - 0) states front

  abbrev cells' : List BlockCell
  cells' = put_mid 0 (blocks - 0) cells marks

  abbrev chip' : Nand
  chip' = nand_of bytes states' cells' blocks pages on left

  states_fit : blocks * pages ≤ length states
  states_fit = (space_parts _ _ _ _ _ space).states_fit

  cells_fit : blocks ≤ length cells
  cells_fit = (space_parts _ _ _ _ _ space).cells_fit

  states_long : length (take (blocks * pages - 0) states) ≡ blocks * pages
  states_long = omega (arith, length-take-le (blocks * pages - 0) states (omega (arith, states_fit)))

  cells_long : length (take (blocks - 0) cells) ≡ blocks
  cells_long = omega (arith, length-take-le (blocks - 0) cells (omega (arith, cells_fit)))

  front_long' : length front ≡ blocks * pages
  front_long' = ap length blank ∙ length-replicate (length (take (blocks * pages - 0) states)) state.Blank ∙ states_long

  all_blank : (i : ℕ) → i < blocks * pages → state_at states' i ≡ state.Blank
  all_blank i l =
      front_at (blocks * pages) states front states_fit front_long' i state.Blank l ∙ ap (λ (xs : List PageState). state_at xs i) blank
      ∙ get_or-replicate (length (take (blocks * pages - 0) states)) i state.Blank state.Blank (omega (arith, states_long))

  all_marked : (k : ℕ) → k < blocks → cell_at cells' k ≡ marked (listed bad k)
  all_marked k l = front_at blocks cells marks cells_fit (omega (arith, marks_long, cells_long)) k untouched l ∙ marks_are k (omega (arith, cells_long))

  space' : spaced (length bytes) (length states') (length cells') blocks pages ≡ true
  space' =
      ap₂ (λ (n m : ℕ). spaced (length bytes) n m blocks pages) (front_long (blocks * pages) states front states_fit front_long') (front_long blocks cells marks cells_fit (omega (arith, marks_long, cells_long))) ∙ space

  pub formatted : OnSheet blocks pages → on ≡ true → 16 * bads chip'.blocks chip'.block ≤ blocks → Fresh chip' blocks pages bad
  formatted sheet lit few = fresh bytes states' cells' blocks pages left on bad all_blank all_marked sheet space' lit few

  pub overfull : blocks < 16 * bads chip'.blocks chip'.block → Misfit TooManyBad blocks bad
  overfull many = too_many bytes states' cells' blocks pages left on bad all_blank all_marked space' many
