-- Counts over the blocks, from their records. Assumes nothing.
use Rattle.std.proofs.Common.{◌≡◌, ℕ, zero, suc, ◌+◌, ◌<◌, ◌≤◌, min, max, Bool, true, false, cond, not, List, [], ◌∷◌, ◌++◌, length, take, map, filter, fold, sym, refl, ap, ◌∙◌, ap₂, add-one, rules, arith}
use Rattle.std.specs.Prelude.{count_by, unwrap_or}
use Rattle.std.specs.List.{reduce}
use Rattle.std.proofs.lemmas.List.{map-append, take_all}
use Rattle.std.proofs.lemmas.List.Elements.{filter_more}
use Rattle.std.proofs.lemmas.List.Filters.{length-filter_more}
use Rattle.std.proofs.lemmas.List.Sums.{length-filter, fold_push}
use Rattle.drive.specs.Nand.{Block, bads}
use Rattle.bench.specs.declared.memory.BlockCell.{BlockCell}
use Rattle.bench.specs.Held.{limit, bad_cell, cell_at, untouched}
use Rattle.bench.specs.Store.{least, most}

-- what the records of the first blocks say of them
abbrev pub Records : List BlockCell → (ℕ → Block) → Type 0
Records cells f = (k : ℕ) → k < length cells → (bad_cell (cell_at cells k) ≡ (f k).bad) × ((cell_at cells k).erases ≡ (f k).erases)

-- ---- how many are bad

bads-first : (cells : List BlockCell) (f : ℕ → Block) → Records cells f → (n : ℕ) → n ≤ length cells → length (filter bad_cell (take n cells)) ≡ bads n f
unfolding bads
bads-first cells f is zero h = refl
bads-first cells f is (suc n) h =
    let one : Bool → ℕ = λ t. cond t 1 0 in
    omega (arith, ap (λ (m : ℕ). length (filter bad_cell (take m cells))) (add-one n), length-filter_more bad_cell cells n untouched (omega arith), ap one (is n (omega arith)).0, bads-first cells f is n (omega arith))

pub bads_of : (cells : List BlockCell) (f : ℕ → Block) → Records cells f → count_by bad_cell cells ≡ bads (length cells) f
bads_of cells f is = sym (length-filter bad_cell cells) ∙ ap (λ (cs : List BlockCell). length (filter bad_cell cs)) (sym (take_all (length cells) cells (omega arith))) ∙ bads-first cells f is (length cells) (omega arith)

-- ---- how often the good ones were erased

-- the erasings of those that are good
abbrev pub erasings : List BlockCell → List ℕ
erasings cells = map (λ c. c.erases) (filter (λ c. not (bad_cell c)) cells)

-- one block further
fold_more : (op : ℕ → ℕ → ℕ) (start n : ℕ) (cells : List BlockCell) → n < length cells
    → fold op start (erasings (take (n + 1) cells)) ≡ cond (bad_cell (cell_at cells n)) (fold op start (erasings (take n cells))) (op (fold op start (erasings (take n cells))) (cell_at cells n).erases)
fold_more op start n cells h =
    ap (λ (cs : List BlockCell). fold op start (map (λ c. c.erases) cs)) (filter_more (λ c. not (bad_cell c)) cells n untouched h)
    ∙ step (filter (λ c. not (bad_cell c)) (take n cells)) (cell_at cells n) (bad_cell (cell_at cells n))
  where
    step : (cs : List BlockCell) (c : BlockCell) (b : Bool)
        → fold op start (map (λ c. c.erases) (cs ++ cond (not b) (c ∷ []) [])) ≡ cond b (fold op start (map (λ c. c.erases) cs)) (op (fold op start (map (λ c. c.erases) cs)) c.erases)
    step cs c true = search rules
    step cs c false = ap (fold op start) (map-append (λ c. c.erases) cs (c ∷ [])) ∙ fold_push op start (map (λ c. c.erases) cs) c.erases

-- a fold over the records is what counts block by block
module _ (op : ℕ → ℕ → ℕ) (start : ℕ) (cells : List BlockCell) (f : ℕ → Block) (count : ℕ → ℕ)
    (none : count 0 ≡ start) (more : (n : ℕ) → count (suc n) ≡ cond (f n).bad (count n) (op (count n) (f n).erases)) (is : Records cells f) where
  fold-first : (n : ℕ) → n ≤ length cells → fold op start (erasings (take n cells)) ≡ count n
  fold-first zero h = sym none
  fold-first (suc n) h =
      ap (λ (m : ℕ). fold op start (erasings (take m cells))) (sym (add-one n)) ∙ fold_more op start n cells (omega arith)
      ∙ ap₂ (λ (b : Bool) (e : ℕ). cond b (fold op start (erasings (take n cells))) (op (fold op start (erasings (take n cells))) e)) (is n (omega arith)).0 (is n (omega arith)).1
      ∙ ap (λ (m : ℕ). cond (f n).bad m (op m (f n).erases)) (fold-first n (omega arith)) ∙ sym (more n)

  pub fold_of : fold op start (erasings cells) ≡ count (length cells)
  fold_of = ap (λ (cs : List BlockCell). fold op start (erasings cs)) (sym (take_all (length cells) cells (omega arith))) ∙ fold-first (length cells) (omega arith)

pub least_of : (cells : List BlockCell) (f : ℕ → Block) → Records cells f → unwrap_or (reduce min (erasings cells)) limit ≤ limit → unwrap_or (reduce min (erasings cells)) limit ≡ least (length cells) f
unfolding least
least_of cells f is fits = first (erasings cells) fits ∙ fold_of min limit cells f (λ n. least n f) refl (λ n. refl) is
  where
    out : (l e : ℕ) (es : List ℕ) → fold min (min l e) es ≡ min l (fold min e es)
    out l e [] = refl
    out l e (x ∷ es) = ap (λ (m : ℕ). fold min m es) (omega arith) ∙ out l (min e x) es

    first : (es : List ℕ) → unwrap_or (reduce min es) limit ≤ limit → unwrap_or (reduce min es) limit ≡ fold min limit es
    first [] h = refl
    first (e ∷ es) h = omega (arith, out limit e es, h)

pub most_of : (cells : List BlockCell) (f : ℕ → Block) → Records cells f → unwrap_or (reduce max (erasings cells)) 0 ≡ most (length cells) f
unfolding most
most_of cells f is = first (erasings cells) ∙ fold_of max 0 cells f (λ n. most n f) refl (λ n. refl) is
  where
    first : (es : List ℕ) → unwrap_or (reduce max es) 0 ≡ fold max 0 es
    first [] = refl
    first (e ∷ es) = ap (λ (m : ℕ). fold max m es) (omega arith)
