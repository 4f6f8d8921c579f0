-- Why there is a chip of 32 blocks of 16 pages. Assumes nothing.
use Rattle.std.proofs.Common.{◌≡◌, ℕ, ◌≤◌, ◌⊎◌, true, [], length, refl, ⊎_elim, arith}
use Rattle.std.proofs.lemmas.Bool.{le-leb, both_ways}
use Rattle.drive.specs.Nand.{Blank, bads}
use Rattle.bench.specs.Held.{spaced, block_with}
use Rattle.bench.specs.Made.{Unfit, Misfit, listed, marked}
use Rattle.bench.specs.declared.memory.ChipMemory.{ChipMemory}
use Rattle.bench.specs.declared.make.Refusal.{Refusal}
use Rattle.bench.specs.declared.make.Refusal.TheVariants.{Blocks, Pages, Space, NoSuchBlock, TooManyBad}

-- of 32 blocks that aren't listed none is bad
none_bad : bads 32 (λ k. block_with (λ p. Blank) (marked (listed [] k))) ≡ 0
unfolding bads listed
none_bad = refl

-- the memory has space
has_space : (bytes : ℕ) → 2228224 ≤ bytes → spaced bytes 512 32 32 16 ≡ true
unfolding spaced
has_space bytes h = le-leb 2228224 bytes h

-- nothing stands against the chip
pub small_fits :
    (e : Refusal) (m : ChipMemory) → length m.states.now ≡ 512 → length m.cells.now ≡ 32 → 2228224 ≤ length m.bytes.now
    → Unfit e m (record { blocks = 32; pages = 16 }) ⊎ Misfit e 32 [] → ⊥
small_fits Blocks m s c h r = ⊎_elim (λ u. ⊎_elim (λ p. absurd (omega (arith, p))) (λ p. absurd (omega (arith, p))) u) (λ m. m) r
small_fits Pages m s c h r = ⊎_elim (λ u. ⊎_elim (λ p. absurd (omega (arith, p))) (λ v. ⊎_elim (λ p. absurd (omega (arith, p))) (λ p. p refl) v) u) (λ m. m) r
small_fits Space m s c h r =
    ⊎_elim (λ u. both_ways (spaced (length m.bytes.now) (length m.states.now) (length m.cells.now) 32 16) u (rw (s, c) (has_space (length m.bytes.now) h))) (λ m. m) r
small_fits NoSuchBlock m s c h r = ⊎_elim (λ u. u) (λ m. absurd (omega (arith, m.1))) r
small_fits TooManyBad m s c h r = ⊎_elim (λ u. u) (λ m. absurd (omega (arith, none_bad, m))) r
