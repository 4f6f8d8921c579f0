-- What the memory becomes is one of the outcomes of the data sheet. Assumes nothing.
use Rattle.std.proofs.Common.{◌≡◌, ℕ, ◌+◌, ◌-◌, ◌*◌, ◌<◌, ◌≤◌, Bool, true, false, cond, not, ◌||◌, T, eqb, ltb, ◌⊎◌, List, length, sym, refl, ap, ◌∙◌, subst, ap₂, inl, inr, arith}
use mathlib.Core.Path.{fun_ext}
use Rattle.std.proofs.lemmas.Bool.{cases_Bool, cases_eq, cond-true, cond-false, lt-ltb, ltb-true, eq-eqb, ne_eqb, eqb-false, or_parts, or_from, not_from_false}
use Rattle.std.proofs.lemmas.Float.{T_from_true}
use Rattle.drive.specs.Nand.{Nand, Block, Page, Blank, Written, Torn, MayErase, MayProgram, MayFail, Erasing, Programming, Reading, Shows, erased, half_erased, broken, frayed, put_page, counted, dark, blank_page}
use Rattle.drive.specs.Bits.{all_bytes, nearly}
use Rattle.drive.specs.declared.Answer.{Answer}
use Rattle.drive.specs.declared.Answer.TheVariants.{Fine, Failed, Dark}
use Rattle.bench.specs.declared.memory.PageState.{PageState}
use Rattle.bench.specs.declared.memory.PageState.TheVariants as state
use Rattle.bench.specs.declared.memory.BlockCell.{BlockCell}
use Rattle.bench.specs.Held.{slot, state_at, cell_at, frayed_state, erased_cell, half_erased_cell, programmed_cell, broken_cell, worn_state, worn_cell, filled_state, filled_cell, still_on, shaped, page_at, block_from, nand_of, limit}
use Rattle.bench.specs.Tricks.{Showing}
use Rattle.bench.proofs.Space.{inside}
use Rattle.bench.proofs.Frames.{Frame, after, changed}

pub not_T : (b : Bool) → T (not b) → b ≡ false
not_T true t = absurd t
not_T false t = refl

frayed-shaped : (s : PageState) (bs : List ℕ) → shaped (frayed_state s) bs ≡ frayed (shaped s bs)
unfolding frayed
frayed-shaped state.Blank bs = refl
frayed-shaped state.Written bs = refl
frayed-shaped state.Torn bs = refl

pub not_blank : (s : PageState) → (s ≡ state.Written) ⊎ (s ≡ state.Torn) → s ≡ state.Blank → ⊥
not_blank s (inl e) b = cc
not_blank s (inr e) b = cc

-- a block, and a page of it, by its place
pub block_is : (bytes : List ℕ) (states : List PageState) (cells : List BlockCell) (blocks pages k left : ℕ) (on : Bool) → k < (nand_of bytes states cells blocks pages on left).blocks
    → (nand_of bytes states cells blocks pages on left).block k ≡ block_from bytes states pages (k * pages) (cell_at cells k)
block_is bytes states cells blocks pages k left on h = cond-true (ltb k blocks) _ _ (lt-ltb k blocks (inside _ _ _ _ _ _ h).low)

pub page_is : (bytes : List ℕ) (states : List PageState) (cells : List BlockCell) (blocks pages k p left : ℕ) (on : Bool) → k < (nand_of bytes states cells blocks pages on left).blocks → p < pages
    → ((nand_of bytes states cells blocks pages on left).block k).page p ≡ page_at bytes states (k * pages + p)
page_is bytes states cells blocks pages k p left on h l =
    ap (λ (b : Block). b.page p) (block_is bytes states cells blocks pages k left on h) ∙ cond-true (ltb p pages) _ _ (lt-ltb p pages l)

-- ---- erasing

sound_cell : (bytes : List ℕ) (states : List PageState) (cells : List BlockCell) (blocks pages k left : ℕ) (on : Bool) → MayErase (nand_of bytes states cells blocks pages on left) k
    → ((cell_at cells k).bad || eqb (cell_at cells k).erases limit) ≡ false
sound_cell bytes states cells blocks pages k left on asked = ap (λ (b : Block). b.bad) (sym (block_is bytes states cells blocks pages k left on asked.1)) ∙ not_T _ asked.2

-- the counter of a block that isn't bad goes on
pub unspent : (bytes : List ℕ) (states : List PageState) (cells : List BlockCell) (blocks pages k left : ℕ) (on : Bool) → MayErase (nand_of bytes states cells blocks pages on left) k
    → (cell_at cells k).erases ≡ limit → ⊥
unspent bytes states cells blocks pages k left on asked =
    let c = cell_at cells k in
    eqb-false c.erases limit (or_parts c.bad (eqb c.erases limit) (sound_cell bytes states cells blocks pages k left on asked)).1

module _ (bytes : List ℕ) (states states' : List PageState) (cells cells' : List BlockCell) (blocks pages k left : ℕ) (on : Bool)
    (asked : MayErase (nand_of bytes states cells blocks pages on left) k) (lit : T on)
    (states_long : length states' ≡ length states) (cells_long : length cells' ≡ length cells)
    (states-kept : (i : ℕ) → (i < k * pages) ⊎ (k * pages + pages ≤ i) → state_at states' i ≡ state_at states i)
    (cells_kept : (j : ℕ) → (j ≡ k → ⊥) → cell_at cells' j ≡ cell_at cells j) where
  abbrev old : BlockCell
  old = cell_at cells k

  low : k < blocks
  low = (inside _ _ _ _ _ _ asked.1).low

  frame : Frame bytes bytes states states' cells cells' pages k
  frame = record { bytes_long = refl; states_long = states_long; cells_long = cells_long; cells_kept = cells_kept; pages_kept = λ i out. ap (λ (s : PageState). shaped s (slot bytes i)) (states-kept i out) }

  sound : (old.bad || eqb old.erases limit) ≡ false
  sound = sound_cell bytes states cells blocks pages k left on asked

  early-cell : ((nand_of bytes states cells blocks pages on left).block k).erases + 1 < limit → old.erases + 1 < limit
  early-cell h = omega (arith, ap (λ (b : Block). b.erases) (block_is bytes states cells blocks pages k left on asked.1))

  still-sound : (e : ℕ) → e < limit → (old.bad || eqb e limit) ≡ (old.bad || eqb old.erases limit)
  still-sound e h = or_from old.bad (eqb e limit) (or_parts old.bad (eqb old.erases limit) sound).0 (ne_eqb e limit (omega arith)) ∙ sym sound

  frayed-page : ((i : ℕ) → k * pages ≤ i → i < k * pages + pages → state_at states' i ≡ frayed_state (state_at states i))
      → (q : ℕ) → cond (ltb q pages) (page_at bytes states' (k * pages + q)) Blank ≡ frayed (cond (ltb q pages) (page_at bytes states (k * pages + q)) Blank)
  unfolding frayed
  frayed-page is q =
      elim (cases_Bool (ltb q pages)) [
        | inl e ↦
            cond-true (ltb q pages) _ _ e ∙ ap (λ (s : PageState). shaped s (slot bytes (k * pages + q))) (is (k * pages + q) (omega arith) (omega (arith, ltb-true q pages e)))
            ∙ frayed-shaped (state_at states (k * pages + q)) (slot bytes (k * pages + q)) ∙ ap frayed (sym (cond-true (ltb q pages) _ _ e))
        | inr e ↦ cond-false (ltb q pages) _ _ e ∙ ap frayed (sym (cond-false (ltb q pages) _ _ e))
      ]

  blank_page_lem : ((i : ℕ) → k * pages ≤ i → i < k * pages + pages → state_at states' i ≡ state.Blank) → (q : ℕ) → cond (ltb q pages) (page_at bytes states' (k * pages + q)) Blank ≡ Blank
  blank_page_lem is q =
      elim (cases_Bool (ltb q pages)) [
        | inl e ↦ cond-true (ltb q pages) _ _ e ∙ ap (λ (s : PageState). shaped s (slot bytes (k * pages + q))) (is (k * pages + q) (omega arith) (omega (arith, ltb-true q pages e)))
        | inr e ↦ cond-false (ltb q pages) _ _ e
      ]

  pub erase-done : ((i : ℕ) → k * pages ≤ i → i < k * pages + pages → state_at states' i ≡ state.Blank)
      → cell_at cells' k ≡ erased_cell old → ((nand_of bytes states cells blocks pages on left).block k).erases + 1 < limit
      → Erasing (nand_of bytes states cells blocks pages on left) k Fine (nand_of bytes states' cells' blocks pages on (left - 1))
  erase-done is cell early =
      let e = old.erases + 1 in
      let here : block_from bytes states' pages (k * pages) (cell_at cells' k) ≡ erased (block_from bytes states pages (k * pages) old) =
      ap (λ (c : BlockCell). block_from bytes states' pages (k * pages) c) cell
      ∙ (λ i. record { page = fun_ext (blank_page_lem is) i; next = 0; clean = true; erases = e; bad = still-sound e (early-cell early) i }) in
      subst (λ (m : Nand). Erasing (nand_of bytes states cells blocks pages on left) k Fine m)
      (sym (changed bytes bytes states states' cells cells' blocks pages k left on on erased frame low here)) (Erasing.done lit)

  pub erase-fails : ((i : ℕ) → k * pages ≤ i → i < k * pages + pages → state_at states' i ≡ frayed_state (state_at states i))
      → cell_at cells' k ≡ broken_cell (half_erased_cell old) → MayFail (nand_of bytes states cells blocks pages on left) k
      → Erasing (nand_of bytes states cells blocks pages on left) k Failed (nand_of bytes states' cells' blocks pages on (left - 1))
  erase-fails is cell may =
      let here : block_from bytes states' pages (k * pages) (cell_at cells' k) ≡ broken (half_erased (block_from bytes states pages (k * pages) old)) =
      ap (λ (c : BlockCell). block_from bytes states' pages (k * pages) c) cell
      ∙ (λ i. record { page = fun_ext (frayed-page is) i; next = old.next; clean = false; erases = old.erases + 1; bad = true }) in
      subst (λ (m : Nand). Erasing (nand_of bytes states cells blocks pages on left) k Failed m)
      (sym (changed bytes bytes states states' cells cells' blocks pages k left on on (λ b. broken (half_erased b)) frame low here)) (Erasing.fails lit may)

  pub erase-goes : ((i : ℕ) → k * pages ≤ i → i < k * pages + pages → state_at states' i ≡ frayed_state (state_at states i))
      → cell_at cells' k ≡ half_erased_cell old → ((nand_of bytes states cells blocks pages on left).block k).erases + 1 < limit
      → Erasing (nand_of bytes states cells blocks pages on left) k Dark (nand_of bytes states' cells' blocks pages false (left - 1))
  erase-goes is cell early =
      let e = old.erases + 1 in
      let here : block_from bytes states' pages (k * pages) (cell_at cells' k) ≡ half_erased (block_from bytes states pages (k * pages) old) =
      ap (λ (c : BlockCell). block_from bytes states' pages (k * pages) c) cell
      ∙ (λ i. record { page = fun_ext (frayed-page is) i; next = old.next; clean = false; erases = e; bad = still-sound e (early-cell early) i }) in
      subst (λ (m : Nand). Erasing (nand_of bytes states cells blocks pages on left) k Dark m)
      (sym (changed bytes bytes states states' cells cells' blocks pages k left on false half_erased frame low here)) (Erasing.goes lit)

-- ---- programming

module _ (bytes bytes' : List ℕ) (states states' : List PageState) (cells cells' : List BlockCell) (blocks pages k p left : ℕ) (on : Bool) (b : List ℕ) (st : PageState)
    (asked : MayProgram (nand_of bytes states cells blocks pages on left) k p b) (lit : T on)
    (bytes_long : length bytes' ≡ length bytes) (states_long : length states' ≡ length states) (cells_long : length cells' ≡ length cells)
    (bytes-kept : (i : ℕ) → (i ≡ k * pages + p → ⊥) → slot bytes' i ≡ slot bytes i)
    (states-kept : (i : ℕ) → (i ≡ k * pages + p → ⊥) → state_at states' i ≡ state_at states i)
    (cells_kept : (j : ℕ) → (j ≡ k → ⊥) → cell_at cells' j ≡ cell_at cells j)
    (bytes-here : slot bytes' (k * pages + p) ≡ b) (states-here : state_at states' (k * pages + p) ≡ st) where
  abbrev before : BlockCell
  before = cell_at cells k

  low-block : k < blocks
  low-block = (inside _ _ _ _ _ _ asked.1).low

  page-kept : (i : ℕ) → (i ≡ k * pages + p → ⊥) → page_at bytes' states' i ≡ page_at bytes states i
  page-kept i ne = ap₂ (λ (s : PageState) (x : List ℕ). shaped s x) (states-kept i ne) (bytes-kept i ne)

  outside : (i : ℕ) → (i < k * pages) ⊎ (k * pages + pages ≤ i) → i ≡ k * pages + p → ⊥
  outside i (inl h) e = omega arith
  outside i (inr h) e = omega (arith, asked.2)

  page-frame : Frame bytes bytes' states states' cells cells' pages k
  page-frame = record { bytes_long = bytes_long; states_long = states_long; cells_long = cells_long; cells_kept = cells_kept; pages_kept = λ i out. page-kept i (outside i out) }

  page-put : (q : ℕ) → cond (ltb q pages) (page_at bytes' states' (k * pages + q)) Blank ≡ cond (eqb q p) (shaped st b) (cond (ltb q pages) (page_at bytes states (k * pages + q)) Blank)
  page-put q =
      elim (cases_eq q p) [
        | inl e ↦
            cond-true (ltb q pages) _ _ (lt-ltb q pages (omega (arith, asked.2))) ∙ ap (λ (i : ℕ). page_at bytes' states' (k * pages + i)) e
            ∙ ap₂ (λ (s : PageState) (x : List ℕ). shaped s x) states-here bytes-here ∙ sym (cond-true (eqb q p) _ _ (eq-eqb q p e))
        | inr ne ↦ ap (λ (x : Page). cond (ltb q pages) x Blank) (page-kept (k * pages + q) (λ e. ne (omega arith))) ∙ sym (cond-false (eqb q p) _ _ (ne_eqb q p ne))
      ]

  -- what is left of the block, but for its page and next
  abbrev put : Block → Block
  put x = put_page p (shaped st b) x

  page-here : cell_at cells' k ≡ programmed_cell p before
      → block_from bytes' states' pages (k * pages) (cell_at cells' k) ≡ put (block_from bytes states pages (k * pages) before)
  page-here cell =
      ap (λ (c : BlockCell). block_from bytes' states' pages (k * pages) c) cell
      ∙ (λ i. record { page = fun_ext page-put i; next = p + 1; clean = before.clean; erases = before.erases; bad = before.bad || eqb before.erases limit })

  pub put-page : (on' : Bool) → cell_at cells' k ≡ programmed_cell p before
      → nand_of bytes' states' cells' blocks pages on' (left - 1) ≡ after k put on' (nand_of bytes states cells blocks pages on left)
  put-page on' cell = changed bytes bytes' states states' cells cells' blocks pages k left on on' put page-frame low-block (page-here cell)

  pub put-broken : cell_at cells' k ≡ broken_cell (programmed_cell p before)
      → nand_of bytes' states' cells' blocks pages on (left - 1) ≡ after k (λ x. broken (put x)) on (nand_of bytes states cells blocks pages on left)
  put-broken cell =
      let here : block_from bytes' states' pages (k * pages) (cell_at cells' k) ≡ broken (put (block_from bytes states pages (k * pages) before)) =
      ap (λ (c : BlockCell). block_from bytes' states' pages (k * pages) c) cell
      ∙ (λ i. record { page = fun_ext page-put i; next = p + 1; clean = false; erases = before.erases; bad = true }) in
      changed bytes bytes' states states' cells cells' blocks pages k left on on (λ x. broken (put x)) page-frame low-block here

pub program_done : {n m : Nand} {k p : ℕ} {b : List ℕ} → T n.on → m ≡ after k (λ x. put_page p (Written b) x) n.on n → Programming n k p b Fine m
program_done {n} {m} {k} {p} {b} lit e = subst (λ (x : Nand). Programming n k p b Fine x) (sym e) (Programming.done lit)

pub program_fails : {n m : Nand} {k p : ℕ} {b : List ℕ} → T n.on → MayFail n k → m ≡ after k (λ x. broken (put_page p (Torn b) x)) n.on n → Programming n k p b Failed m
program_fails {n} {m} {k} {p} {b} lit may e = subst (λ (x : Nand). Programming n k p b Failed x) (sym e) (Programming.fails lit may)

pub program_goes : {n m : Nand} {k p : ℕ} {b : List ℕ} → T n.on → m ≡ after k (λ x. put_page p (Torn b) x) false n → Programming n k p b Dark m
program_goes {n} {m} {k} {p} {b} lit e = subst (λ (x : Nand). Programming n k p b Dark x) (sym e) (Programming.goes lit)

-- ---- when the power is gone, and reading

pub erase_gone : {n m : Nand} {k : ℕ} → n.on ≡ false → m ≡ dark (counted n) → Erasing n k Dark m
erase_gone {n} {m} {k} off e = subst (λ (x : Nand). Erasing n k Dark x) (sym e) (Erasing.gone (T_from_true (not n.on) (not_from_false n.on off)))

pub program_gone : {n m : Nand} {k p : ℕ} {b : List ℕ} → n.on ≡ false → m ≡ dark (counted n) → Programming n k p b Dark m
program_gone {n} {m} {k} {p} {b} off e = subst (λ (x : Nand). Programming n k p b Dark x) (sym e) (Programming.gone (T_from_true (not n.on) (not_from_false n.on off)))

pub read_goes : {n m : Nand} {k p : ℕ} {r : List ℕ} → m ≡ dark (counted n) → Reading n k p r Dark m
read_goes {n} {m} {k} {p} {r} e = subst (λ (x : Nand). Reading n k p r Dark x) (sym e) (Reading.goes r)

-- what is shown of a page that was fetched
pub shows : (page : Page) (st : PageState) (a c r : List ℕ) → page ≡ shaped st a → (st ≡ state.Blank → a ≡ blank_page) → Showing st a c
    → T (all_bytes c) → length r ≡ 4352 → T (all_bytes r) → T (nearly 17 1 c r) → Shows page r
shows page st a c r is blank shown all long fit near = subst (λ (x : Page). Shows x r) (sym is) (go st blank shown)
  where
    go : (s : PageState) → (s ≡ state.Blank → a ≡ blank_page) → Showing s a c → Shows (shaped s a) r
    go state.Blank b e = Shows.blank r long fit (subst (λ (x : List ℕ). T (nearly 17 1 x r)) (e ∙ b refl) near)
    go state.Written b e = Shows.written a r long fit (subst (λ (x : List ℕ). T (nearly 17 1 x r)) e near)
    go state.Torn b u = Shows.torn a c r u all long fit near

pub read_shows : {n m : Nand} {k p : ℕ} {r : List ℕ} → T n.on → Shows ((n.block k).page p) r → m ≡ counted n → Reading n k p r Fine m
read_shows {n} {m} {k} {p} {r} lit s e = subst (λ (x : Nand). Reading n k p r Fine x) (sym e) (Reading.reads r lit s)

-- ---- by the answer

pub erase_by : (a : Answer) (bytes : List ℕ) (states states' : List PageState) (cells cells' : List BlockCell) (blocks pages k left : ℕ) (on : Bool)
    → MayErase (nand_of bytes states cells blocks pages on left) k → T on → (a ≡ Failed → MayFail (nand_of bytes states cells blocks pages on left) k)
    → ((a ≡ Failed → ⊥) → ((nand_of bytes states cells blocks pages on left).block k).erases + 1 < limit)
    → length states' ≡ length states → length cells' ≡ length cells
    → ((i : ℕ) → (i < k * pages) ⊎ (k * pages + pages ≤ i) → state_at states' i ≡ state_at states i) → ((j : ℕ) → (j ≡ k → ⊥) → cell_at cells' j ≡ cell_at cells j)
    → ((i : ℕ) → k * pages ≤ i → i < k * pages + pages → state_at states' i ≡ worn_state a (state_at states i)) → cell_at cells' k ≡ worn_cell a (cell_at cells k)
    → Erasing (nand_of bytes states cells blocks pages on left) k a (nand_of bytes states' cells' blocks pages (still_on a) (left - 1))
erase_by a bytes s s' c c' n w k left false asked lit may early sl cl sk ck sh ch = absurd lit
erase_by Fine bytes s s' c c' n w k left true asked lit may early sl cl sk ck sh ch = erase-done bytes s s' c c' n w k left true asked lit sl cl sk ck sh ch (early (λ e. cc))
erase_by Failed bytes s s' c c' n w k left true asked lit may early sl cl sk ck sh ch = erase-fails bytes s s' c c' n w k left true asked lit sl cl sk ck sh ch (may refl)
erase_by Dark bytes s s' c c' n w k left true asked lit may early sl cl sk ck sh ch = erase-goes bytes s s' c c' n w k left true asked lit sl cl sk ck sh ch (early (λ e. cc))

pub program_by : (a : Answer) (bytes bytes' : List ℕ) (states states' : List PageState) (cells cells' : List BlockCell) (blocks pages k p left : ℕ) (on : Bool) (b : List ℕ)
    → MayProgram (nand_of bytes states cells blocks pages on left) k p b → T on → (a ≡ Failed → MayFail (nand_of bytes states cells blocks pages on left) k)
    → length bytes' ≡ length bytes → length states' ≡ length states → length cells' ≡ length cells
    → ((i : ℕ) → (i ≡ k * pages + p → ⊥) → slot bytes' i ≡ slot bytes i) → ((i : ℕ) → (i ≡ k * pages + p → ⊥) → state_at states' i ≡ state_at states i)
    → ((j : ℕ) → (j ≡ k → ⊥) → cell_at cells' j ≡ cell_at cells j)
    → slot bytes' (k * pages + p) ≡ b → state_at states' (k * pages + p) ≡ filled_state a → cell_at cells' k ≡ filled_cell a p (cell_at cells k)
    → Programming (nand_of bytes states cells blocks pages on left) k p b a (nand_of bytes' states' cells' blocks pages (still_on a) (left - 1))
program_by a y y' s s' c c' n w k p left false b asked lit may yl sl cl yk sk ck yh sh ch = absurd lit
program_by Fine y y' s s' c c' n w k p left true b asked lit may yl sl cl yk sk ck yh sh ch =
    program_done lit (put-page y y' s s' c c' n w k p left true b state.Written asked lit yl sl cl yk sk ck yh sh true ch)
program_by Failed y y' s s' c c' n w k p left true b asked lit may yl sl cl yk sk ck yh sh ch =
    program_fails lit (may refl) (put-broken y y' s s' c c' n w k p left true b state.Torn asked lit yl sl cl yk sk ck yh sh ch)
program_by Dark y y' s s' c c' n w k p left true b asked lit may yl sl cl yk sk ck yh sh ch =
    program_goes lit (put-page y y' s s' c c' n w k p left true b state.Torn asked lit yl sl cl yk sk ck yh sh false ch)
