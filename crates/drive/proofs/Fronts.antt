-- The least of the pairs of arrival and tag is that of the command that came first. Assumes nothing.
use Rattle.std.proofs.Common.{◌≡◌, ℕ, zero, suc, ◌+◌, false, Option, Some, None, List, refl, ap, subst, arith}
use Rattle.std.proofs.lemmas.Bool.Decides.{nat_tests}
use Rattle.std.specs.List.{filter_map, cons_option, fold, reduce, range_with_len}
use Rattle.std.specs.Option.{option_map}
use Rattle.std.specs.Ordering.{nat_cmp, ordering_then, min_by_ordering}
use Rattle.drive.specs.Queue.{slot_at, busy, came, First}
use Rattle.drive.specs.declared.queue.Pending.{Pending}
use Rattle.drive.specs.declared.queue.Queue.{Queue}

-- when the command under a tag came, and the tag
abbrev pub arrival : Queue → ℕ → Option (ℕ × ℕ)
arrival q t = option_map (λ (p : Pending). (p.since, t)) (slot_at q t)

-- the lesser of two such pairs
abbrev pub earlier : ℕ × ℕ → ℕ × ℕ → ℕ × ℕ
earlier x y = min_by_ordering (ordering_then (nat_cmp x.0 y.0) (nat_cmp x.1 y.1)) x y

-- a pair is that of the command that came first of those below n
abbrev IsFirst : Queue → ℕ → ℕ × ℕ → Type 0
IsFirst q n x = First q n (Some x.1) × (x.0 ≡ came (slot_at q x.1))

-- a tag without a command changes neither the pair nor that there is none
passes : (q : Queue) (a : ℕ) (x : ℕ × ℕ) → busy (slot_at q a) ≡ false → IsFirst q a x → IsFirst q (a + 1) x
passes q a x b f = grind (arith, nat_tests)

none_passes : (q : Queue) (a : ℕ) → busy (slot_at q a) ≡ false → First q a None → First q (a + 1) None
none_passes q a b f = grind (arith, nat_tests)

-- the first command that is met, and a further one
opens : (q : Queue) (a : ℕ) (p : Pending) → slot_at q a ≡ Some p → First q a None → IsFirst q (a + 1) (p.since, a)
opens q a p e f = grind (arith, nat_tests)

takes : (q : Queue) (a : ℕ) (x : ℕ × ℕ) (p : Pending) → slot_at q a ≡ Some p → IsFirst q a x → IsFirst q (a + 1) (earlier x (p.since, a))
takes q a x p e f = grind (arith, nat_tests)

moved : (q : Queue) (m n : ℕ) (x : ℕ × ℕ) → m ≡ n → IsFirst q m x → IsFirst q n x
moved q m n x e f = subst (λ k. IsFirst q k x) e f

-- going on from the pair that is first below a
after : (q : Queue) (n a : ℕ) (x : ℕ × ℕ) → IsFirst q a x → IsFirst q (a + n) (fold earlier x (filter_map (arrival q) (range_with_len a n)))
after q zero a x f = moved q a (a + 0) x (omega arith) f
after q (suc n) a x f =
    let rest : List (ℕ × ℕ) = filter_map (arrival q) (range_with_len (a + 1) n) in
    elim (slot_at q a) as (λ o. slot_at q a ≡ o → IsFirst q (a + suc n) (fold earlier x (cons_option (option_map (λ (p : Pending). (p.since, a)) o) rest))) [
      | None ↦ λ e. moved q (a + 1 + n) (a + suc n) _ (omega arith) (after q n (a + 1) x (passes q a x (ap busy e) f))
      | Some p ↦ λ e. moved q (a + 1 + n) (a + suc n) _ (omega arith) (after q n (a + 1) (earlier x (p.since, a)) (takes q a x p e f))
    ] refl

-- where there is none below a
found : (q : Queue) (n a : ℕ) → First q a None → First q (a + n) (option_map (λ (x : ℕ × ℕ). x.1) (reduce earlier (filter_map (arrival q) (range_with_len a n))))
found q zero a f = subst (λ k. First q k None) (omega arith) f
found q (suc n) a f =
    let rest : List (ℕ × ℕ) = filter_map (arrival q) (range_with_len (a + 1) n) in
    let goal : ℕ → List (ℕ × ℕ) → Type 0 = λ k xs. First q k (option_map (λ (x : ℕ × ℕ). x.1) (reduce earlier xs)) in
    elim (slot_at q a) as (λ o. slot_at q a ≡ o → goal (a + suc n) (cons_option (option_map (λ (p : Pending). (p.since, a)) o) rest)) [
      | None ↦ λ e. subst (λ k. goal k rest) (omega arith) (found q n (a + 1) (none_passes q a (ap busy e) f))
      | Some p ↦ λ e. (moved q (a + 1 + n) (a + suc n) _ (omega arith) (after q n (a + 1) (p.since, a) (opens q a p e f))).0
    ] refl

-- the least pair of all
pub least_first : (q : Queue) (n : ℕ) (r : Option (ℕ × ℕ)) → r ≡ reduce earlier (filter_map (arrival q) (range_with_len 0 n)) → First q n (option_map (λ (x : ℕ × ℕ). x.1) r)
least_first q n r e =
    let first : First q (0 + n) _ = found q n 0 (λ u l. absurd (omega arith)) in
    let at_n : 0 + n ≡ n = omega arith in
    rw e (subst (λ k. First q k (option_map (λ (x : ℕ × ℕ). x.1) (reduce earlier (filter_map (arrival q) (range_with_len 0 n))))) at_n first)
