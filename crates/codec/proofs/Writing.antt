-- The steps of the functions that write a page. Assumes nothing.
use Rattle.std.proofs.Common.{◌≡◌, ℕ, zero, suc, ◌+◌, ◌-◌, ◌*◌, ◌<◌, ◌≤◌, Bool, true, false, cond, T, List, [], ◌∷◌, ◌++◌, length, get_or, ⊎_elim, take, drop, set, replicate, sym, refl, ap, ◌∙◌, subst, ap₂, append_assoc, add-one, arith, length-append, length-drop, length-take}
use Rattle.std.proofs.lemmas.List.{get_or-map, length-map, drop-drop, drop-take, take_more_set, drop-set-add, take_all, take_at, drop_at, take-take, length-take-le, length-set}
use Rattle.std.proofs.lemmas.Bool.{cases_lt}
use Rattle.std.proofs.lemmas.Grind.{same_number_lists}
use denote.Param.Members.{Mut, Called}
use Rattle.std.specs.Array.{IsFromFnResult, IsFromFnResultFrom}
use Rattle.codec.specs.Bits.{all_bytes, same, turned, mark}
use Rattle.codec.specs.Mending.{column, places}
use Rattle.codec.specs.Pages.{checks, guarded, rest, paged, mark_in}
use Rattle.codec.proofs.Pages.{same_is, same_refl, all_take}

-- what a function of the index makes, where each call gives h of its index and leaves the function as it was
each_made : {F : Type 0} (g : Mut F (ℕ × Unit {0}) ℕ) (h : ℕ → ℕ) (f : F) → ((i y : ℕ) (q : F) → Called g f (i, tt) y q → (q ≡ f) × (y ≡ h i))
    → (ys : List ℕ) (n i : ℕ) → IsFromFnResultFrom g f ys i n → (k : ℕ) → i ≤ k → k < i + n → get_or ys k 0 ≡ h k
each_made g h f acts ys zero i m k lo hi = absurd (omega arith)
each_made g h f acts ys (suc n) i m k lo hi =
    let c = acts i m.1 m.0 m.3 in
    ⊎_elim
    (λ (l : i < k). each_made g h f acts ys n (i + 1) (subst (λ q. IsFromFnResultFrom g q ys (i + 1) n) c.0 m.4) k (omega arith) (omega arith))
    (λ (l : k ≤ i). let e : k ≡ i = omega arith in rw e (m.2.1 0 ∙ c.1))
    (cases_lt i k)

-- the complements of bytes, made one by one
pub turned_made : {F : Type 0} (g : Mut F (ℕ × Unit {0}) ℕ) (f : F) (v ys : List ℕ) → IsFromFnResult g f ys 32 → length v ≡ 32 → ((i y : ℕ) (q : F) → Called g f (i, tt) y q → (q ≡ f) × (y ≡ 255 - get_or v i 0)) → ys ≡ turned v
turned_made g f v ys m long acts =
    same_number_lists ys (turned v) (omega (arith, m.long, length-map v (λ b. 255 - b)))
    (λ k l. each_made g (λ i. 255 - get_or v i 0) f acts ys 32 0 m.each k (omega arith) (omega (arith, m.long)) ∙ sym (get_or-map (λ b. 255 - b) v k 0 0 (omega (arith, m.long))))

-- ---- the checks

checks-suc : (n : ℕ) (d : List ℕ) → checks (suc n) d ≡ checks n d ++ column (take 256 (drop (256 * n) d)) ∷ places 0 (take 256 (drop (256 * n) d)) ∷ []
unfolding checks
checks-suc zero d = refl
checks-suc (suc n) d =
    let e : 256 + 256 * n ≡ 256 * suc n = omega arith in
    let s = drop-drop (256 * n) 256 d ∙ ap (λ k. drop k d) e in
    ap (λ x. column (take 256 d) ∷ places 0 (take 256 d) ∷ x)
    (checks-suc n (drop 256 d) ∙ ap (λ x. checks n (drop 256 d) ++ column (take 256 x) ∷ places 0 (take 256 x) ∷ []) s)

-- the next chunk of what is left of 16 pieces
pub chunk_next : (d piece more left : List ℕ) (i : ℕ) → 4096 ≤ length d → left ≡ drop (256 * i) (take 4096 d) → left ≡ piece ++ more → length piece ≡ 256
    → (i < 16) × (piece ≡ take 256 (drop (256 * i) d)) × (more ≡ drop (256 * (i + 1)) (take 4096 d))
chunk_next d piece more left i h e f l =
    let long = length-take 4096 d in
    let n : length left ≡ 4096 - 256 * i = omega (arith, ap length e, length-drop (256 * i) (take 4096 d)) in
    let p : i < 16 = omega (arith, ap length f, length-append piece more) in
    let k : 4096 ≡ 256 * i + (4096 - 256 * i) = omega arith in
    let m : 256 * i + 256 ≡ 256 * (i + 1) = omega arith in
    let c : left ≡ take (4096 - 256 * i) (drop (256 * i) d) = e ∙ ap (λ z. drop (256 * i) (take z d)) k ∙ drop-take (256 * i) (4096 - 256 * i) d in (
      p,
      sym (take_at piece more 256 l) ∙ ap (take 256) (sym f ∙ c) ∙ take-take 256 (4096 - 256 * i) (drop (256 * i) d) (omega arith),
      sym (drop_at piece more 256 l) ∙ ap (drop 256) (sym f ∙ e) ∙ drop-drop 256 (256 * i) (take 4096 d) ∙ ap (λ z. drop z (take 4096 d)) m,
    )

pub guard_more : (i : ℕ) (out d : List ℕ) (x y : ℕ) → length out ≡ 33 → i < 16 → take (2 * i) (drop 1 out) ≡ checks i d
    → x ≡ column (take 256 (drop (256 * i) d)) → y ≡ places 0 (take 256 (drop (256 * i) d))
    → take (2 * (i + 1)) (drop 1 (set (set out (2 * i + 1) x) (2 * i + 2) y)) ≡ checks (i + 1) d
guard_more i out d x y l h e ex ey =
    let a : 2 * i + 1 ≡ 1 + 2 * i = omega arith in
    let b : 2 * i + 2 ≡ 1 + (2 * i + 1) = omega arith in
    let n : 2 * (i + 1) ≡ 2 * i + 1 + 1 = omega arith in
    let o = drop 1 out in
    let lo = length-drop 1 out in
    let s1 : drop 1 (set (set out (2 * i + 1) x) (2 * i + 2) y) ≡ set (set o (2 * i) x) (2 * i + 1) y =
    ap (λ m. drop 1 (set (set out (2 * i + 1) x) m y)) b ∙ drop-set-add 1 (set out (2 * i + 1) x) (2 * i + 1) y
    ∙ ap (λ z. set z (2 * i + 1) y) (ap (λ m. drop 1 (set out m x)) a ∙ drop-set-add 1 out (2 * i) x) in
    let ls = length-set o (2 * i) x in
    ap₂ take n s1 ∙ take_more_set (set o (2 * i) x) (2 * i + 1) y (omega arith)
    ∙ ap (λ z. z ++ y ∷ []) (take_more_set o (2 * i) x (omega arith) ∙ ap (λ z. z ++ x ∷ []) e)
    ∙ append_assoc (checks i d) (x ∷ []) (y ∷ [])
    ∙ ap₂ (λ p q. checks i d ++ p ∷ q ∷ []) ex ey
    ∙ sym (checks-suc i d) ∙ ap (λ m. checks m d) (sym (add-one i))

pub guard_done : (i : ℕ) (out d : List ℕ) (x : ℕ) → length out ≡ 33 → i ≡ 16 → take (2 * i) (drop 1 out) ≡ checks i d → x ≡ column (take 32 (drop 1 out)) → set out 0 x ≡ guarded d
unfolding guarded
guard_done i [] d x l e h k = absurd (omega arith)
guard_done i (y ∷ o) d x l e h k =
    let all = take_all 32 o (omega arith) in
    let s = subst (λ n. take (2 * n) o ≡ checks n d) e h in
    ap₂ (λ (b : ℕ) (bs : List ℕ). b ∷ bs) (k ∙ ap column s) (sym all ∙ s)

checks-take : (n m : ℕ) (d : List ℕ) → 256 * n ≤ m → checks n (take m d) ≡ checks n d
unfolding checks
checks-take zero m d h = refl
checks-take (suc n) m d h =
    let e : m ≡ 256 + (m - 256) = omega arith in
    let t : take 256 (take m d) ≡ take 256 d = take-take 256 m d (omega arith) in
    let r : drop 256 (take m d) ≡ take (m - 256) (drop 256 d) = ap (λ k. drop 256 (take k d)) e ∙ drop-take 256 (m - 256) d in
    ap₂ (λ (a b : List ℕ). column a ∷ places 0 a ∷ b) t (ap (checks n) r ∙ checks-take n (m - 256) (drop 256 d) (omega arith))

guarded-take : (d : List ℕ) → guarded (take 4096 d) ≡ guarded d
unfolding guarded
guarded-take d = ap (λ cs. column cs ∷ cs) (checks-take 16 4096 d (omega arith))

regroup : (d m g r : List ℕ) (k : ℕ) → (((d ++ m) ++ g) ++ k ∷ []) ++ r ≡ d ++ (m ++ (g ++ k ∷ r))
regroup d m g r k = simp append_assoc

pub seal_done : (v p q r w cs : List ℕ) (h : ℕ) → length p ≡ 4352 → length r ≡ 4352 → length w ≡ 4352 → length cs ≡ 33
    → cs ≡ guarded p → h ≡ places 0 cs → take 4288 q ≡ take 4096 p ++ mark v → take (4288 + length cs) r ≡ take 4288 q ++ cs
    → take 4352 w ≡ take 4322 (set r 4321 h) ++ replicate 30 255 → w ≡ paged v (take 4096 p)
unfolding paged rest
seal_done v p q r w cs h lp lr lw lc ec eh e1 e2 e4 =
    let n : 4288 + length cs ≡ 4321 = omega arith in
    let e3 : take 4322 (set r 4321 h) ≡ take 4321 r ++ h ∷ [] = take_more_set r 4321 h (omega arith) in
    let a : take 4352 w ≡ w = take_all 4352 w (omega arith) in
    let d = take 4096 p in
    let c : cs ≡ guarded d = ec ∙ sym (guarded-take p) in
    let all : w ≡ (((d ++ mark v) ++ cs) ++ h ∷ []) ++ replicate 30 255 = cc in
    all ∙ ap₂ (λ (z : List ℕ) (k : ℕ). (((d ++ mark v) ++ z) ++ k ∷ []) ++ replicate 30 255) c (eh ∙ ap (places 0) c)
    ∙ regroup d (mark v) (guarded d) (replicate 30 255) (places 0 (guarded d))

-- ---- the mark that is read

pub mark_then : (u w : List ℕ) → take 32 u ≡ take 32 (drop 32 u) → w ≡ take 32 u → w ≡ mark_in u
unfolding mark_in
mark_then u w e is = is ∙ go (same (take 32 u) (take 32 (drop 32 u))) (subst (λ x. T (same (take 32 u) x)) e (same_refl (take 32 u)))
  where
    go : (t : Bool) → T t → take 32 u ≡ cond t (take 32 u) (take 32 (drop 64 u))
    go true h = refl
    go false h = absurd h

pub mark_else : (u w : List ℕ) → (take 32 u ≡ take 32 (drop 32 u) → ⊥) → w ≡ take 32 (drop 64 u) → w ≡ mark_in u
unfolding mark_in
mark_else u w ne is = is ∙ go (same (take 32 u) (take 32 (drop 32 u))) (λ h. ne (same_is (take 32 u) (take 32 (drop 32 u)) h))
  where
    go : (t : Bool) → (T t → ⊥) → take 32 (drop 64 u) ≡ cond t (take 32 u) (take 32 (drop 64 u))
    go true h = absurd (h tt)
    go false h = refl

-- the data of a page of bytes are bytes
pub data_bytes : (v p w : List ℕ) → 4096 ≤ length p → w ≡ paged v (take 4096 p) → T (all_bytes w) → T (all_bytes (take 4096 p))
unfolding paged
data_bytes v p w l e h =
    let d = take 4096 p in
    subst (λ x. T (all_bytes x)) (ap (take 4096) e ∙ take_at d (mark v ++ rest d) 4096 (length-take-le 4096 p l)) (all_take 4096 w h)
