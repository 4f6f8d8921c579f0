-- The data sheet read backwards: what an answer says of a chip. Assumes nothing.
use Rattle.std.proofs.Common.{◌≡◌, ℕ, ◌<◌, true, false, not, eqb, List, length, sym, refl, ◌∙◌, subst, arith}
use Rattle.std.proofs.lemmas.Bool.{eq-eqb, not_from_false}
use Rattle.std.proofs.lemmas.Float.{T_from_true}
use Rattle.drive.specs.Nand.{Nand, MayErase, MayProgram, Erasing, Programming, Reading, allowed, lit}
use Rattle.drive.specs.declared.Answer.{Answer}
use Rattle.drive.specs.declared.Answer.TheVariants.{Fine, Dark}
use Rattle.bench_tests.specs.Asked.{Kept}

pub erase_kept : {n : Nand} {k : ℕ} {a : Answer} {m : Nand} → Erasing n k a m → Kept n m
erase_kept (Erasing.done on) = record { blocks_kept = refl; pages_kept = refl }
erase_kept (Erasing.fails on may) = record { blocks_kept = refl; pages_kept = refl }
erase_kept (Erasing.goes on) = record { blocks_kept = refl; pages_kept = refl }
erase_kept (Erasing.gone off) = record { blocks_kept = refl; pages_kept = refl }

pub erase_dark : {n : Nand} {k : ℕ} {a : Answer} {m : Nand} → Erasing n k a m → a ≡ Dark → m.on ≡ false
erase_dark (Erasing.done on) e = cc
erase_dark (Erasing.fails on may) e = cc
erase_dark (Erasing.goes on) e = refl
erase_dark (Erasing.gone off) e = refl

pub program_kept : {n : Nand} {k p : ℕ} {b : List ℕ} {a : Answer} {m : Nand} → Programming n k p b a m → Kept n m
program_kept (Programming.done on) = record { blocks_kept = refl; pages_kept = refl }
program_kept (Programming.fails on may) = record { blocks_kept = refl; pages_kept = refl }
program_kept (Programming.goes on) = record { blocks_kept = refl; pages_kept = refl }
program_kept (Programming.gone off) = record { blocks_kept = refl; pages_kept = refl }

pub program_dark : {n : Nand} {k p : ℕ} {b : List ℕ} {a : Answer} {m : Nand} → Programming n k p b a m → a ≡ Dark → m.on ≡ false
program_dark (Programming.done on) e = cc
program_dark (Programming.fails on may) e = cc
program_dark (Programming.goes on) e = refl
program_dark (Programming.gone off) e = refl

pub read_kept : {n : Nand} {k p : ℕ} {r : List ℕ} {a : Answer} {m : Nand} → Reading n k p r a m → Kept n m
read_kept (Reading.reads r on s) = record { blocks_kept = refl; pages_kept = refl }
read_kept (Reading.goes r) = record { blocks_kept = refl; pages_kept = refl }

pub read_dark : {n : Nand} {k p : ℕ} {r : List ℕ} {a : Answer} {m : Nand} → Reading n k p r a m → a ≡ Dark → m.on ≡ false
read_dark (Reading.reads r on s) e = cc
read_dark (Reading.goes r) e = refl

eqb_same : (k : ℕ) → eqb k k ≡ true
eqb_same k = eq-eqb k k refl

may_program : {n : Nand} {k : ℕ} {m : Nand} (b : List ℕ) → 1 < n.left → MayErase n k → 0 < n.pages → length b ≡ 4352 → Erasing n k Fine m → MayProgram m k 0 b
may_program {n} {k} b left asked pages long (Erasing.done on) = (omega arith, asked.1, pages, simp eqb_same (omega arith), simp eqb_same tt, simp eqb_same asked.2, long)

-- the first page of a block that was erased may be programmed
pub rewritable : (n : Nand) {a : Nand} {k : ℕ} {m : Nand} (b : List ℕ) → a ≡ allowed 2 n → k < n.blocks → (n.block k).bad ≡ false → 0 < n.pages → length b ≡ 4352 → Erasing a k Fine m → MayProgram m k 0 b
rewritable n {a} {k} {m} b e low good pages long er =
    may_program b (omega arith) (omega arith, low, T_from_true (not (n.block k).bad) (not_from_false (n.block k).bad good)) pages long (subst (λ (x : Nand). Erasing x k Fine m) e er)

-- ---- what stays

pub kept_trans : {n m l : Nand} → Kept n m → Kept m l → Kept n l
kept_trans k h = record { blocks_kept = h.blocks_kept ∙ k.blocks_kept; pages_kept = h.pages_kept ∙ k.pages_kept }

pub kept_same : {n : Nand} → Kept n n
kept_same = record { blocks_kept = refl; pages_kept = refl }

pub allowed_kept : {n m : Nand} (asks : ℕ) → m ≡ allowed asks n → Kept n m
allowed_kept {n} asks e = subst (λ (x : Nand). Kept n x) (sym e) (record { blocks_kept = refl; pages_kept = refl })

pub lit_kept : {n m : Nand} → m ≡ lit n → Kept n m
lit_kept {n} e = subst (λ (x : Nand). Kept n x) (sym e) (record { blocks_kept = refl; pages_kept = refl })
