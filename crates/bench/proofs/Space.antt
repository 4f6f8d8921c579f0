-- What memory that has space for a chip has space for. Assumes nothing.
use Rattle.std.proofs.Common.{◌≡◌, ℕ, suc, ◌+◌, ◌*◌, ◌<◌, ◌≤◌, Bool, true, cond, leb, ap, inl, inr, suc-mul, arith}
use Rattle.std.proofs.lemmas.Nat.{mul-le}
use Rattle.std.proofs.lemmas.Bool.{and_parts, leb-true, cases_Bool}
use Rattle.bench.specs.Held.{spaced}

-- a block of a chip whose memory has space for it
pub record Inside (bytes states cells blocks pages k : ℕ) : Type 0 where
  pub low : k < blocks
  pub pages_low : pages ≤ 256
  pub cell : k < cells
  pub state : k * pages + pages ≤ states
  pub byte : 4352 * (k * pages + pages) ≤ bytes

-- the rows up to the end of row k
pub row_end : (k n w : ℕ) → k < n → k * w + w ≤ n * w
row_end k n w h = omega (arith, mul-le (suc k) w n w h (omega arith), suc-mul k w)

-- what there is space for
pub record Parts (bytes states cells blocks pages : ℕ) : Type 0 where
  pub blocks_few : blocks ≤ 65536
  pub pages_few : pages ≤ 256
  pub cells_fit : blocks ≤ cells
  pub states_fit : blocks * pages ≤ states
  pub bytes_fit : 4352 * (blocks * pages) ≤ bytes

pub space_parts : (bytes states cells blocks pages : ℕ) → spaced bytes states cells blocks pages ≡ true → Parts bytes states cells blocks pages
unfolding spaced
space_parts b s c n w e =
    let p = and_parts (leb n 65536) _ e in
    let q = and_parts (leb w 256) _ p.1 in
    let r = and_parts (leb n c) _ q.1 in
    let t = and_parts (leb (n * w) s) _ r.1 in
    record { blocks_few = leb-true n 65536 p.0; pages_few = leb-true w 256 q.0; cells_fit = leb-true n c r.0; states_fit = leb-true (n * w) s t.0; bytes_fit = leb-true (4352 * (n * w)) b t.1 }

pub inside : (bytes states cells blocks pages k : ℕ) → k < cond (spaced bytes states cells blocks pages) blocks 0 → Inside bytes states cells blocks pages k
inside b s c n w k h =
    elim (cases_Bool (spaced b s c n w)) [
      | inl e ↦
          let low : k < n = omega (arith, ap (λ (t : Bool). cond t n 0) e) in
          let parts = space_parts b s c n w e in
          let row = row_end k n w low in
          record { low = low; pages_low = parts.pages_few; cell = omega arith; state = omega arith; byte = omega arith }
      | inr e ↦ absurd (omega (arith, ap (λ (t : Bool). cond t n 0) e))
    ]

-- the memory has a record for each block
pub cells_enough : (bytes states cells blocks pages : ℕ) → cond (spaced bytes states cells blocks pages) blocks 0 ≤ cells
cells_enough b s c n w =
    elim (cases_Bool (spaced b s c n w)) [
      | inl e ↦ omega (arith, ap (λ (t : Bool). cond t n 0) e, (space_parts b s c n w e).cells_fit)
      | inr e ↦ omega (arith, ap (λ (t : Bool). cond t n 0) e)
    ]
