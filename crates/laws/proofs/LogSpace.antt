-- The log never outgrows its room: what every step of it keeps. Assumes nothing.
use Rattle.std.proofs.Common.{◌≡◌, ℕ, zero, suc, ◌+◌, ◌-◌, ◌*◌, ◌/◌, ◌<◌, ◌≤◌, cond, eqb, ◌⊎◌, List, [], ◌∷◌, ◌++◌, length, sym, refl, ap, ◌∙◌, subst, inl, inr, ⊎_elim, append_assoc, append-nil, mul-le-mul_right, mul_assoc, suc-mul, mul_comm, mul-le-mul_left, mul-pos, mul-one, mul-add, mul_left_comm, arith, length-append}
use Rattle.std.proofs.lemmas.Bool.{cases_lt, cases_eq, cond_both, eqb-true, eqb-false}
use Rattle.laws.specs.Space.{size_of, Entry, written, copied, seal, Of, Has, LogSteps, LogFits, LogLength, good_blocks, spare_blocks, log_room, log_threshold, RoomSuffices, SpareStaysFree}

-- ---- counting

-- how many entries were added, written or seals
abbrev added : List Entry → ℕ
added [] = 0
added (written s ∷ l) = suc (added l)
added (copied s ∷ l) = added l
added (seal ∷ l) = suc (added l)

-- the sectors of those that were copied
abbrev sectors_copied : List Entry → List ℕ
sectors_copied [] = []
sectors_copied (written s ∷ l) = sectors_copied l
sectors_copied (copied s ∷ l) = s ∷ sectors_copied l
sectors_copied (seal ∷ l) = sectors_copied l

length_parts : (l : List Entry) → length l ≡ added l + length (sectors_copied l)
length_parts [] = refl
length_parts (written s ∷ l) = omega (arith, length_parts l)
length_parts (copied s ∷ l) = omega (arith, length_parts l)
length_parts (seal ∷ l) = omega (arith, length_parts l)

added-append : (a b : List Entry) → added (a ++ b) ≡ added a + added b
added-append [] b = omega arith
added-append (written s ∷ a) b = omega (arith, added-append a b)
added-append (copied s ∷ a) b = added-append a b
added-append (seal ∷ a) b = omega (arith, added-append a b)

-- ---- the end of a list

-- where the last of a list in two parts is: in the first, and nothing is in the second, or in the second
data Last (a b m : List Entry) (e : Entry) : Type 0 where
  in_first : b ≡ [] → a ≡ m ++ (e ∷ []) → Last a b m e
  in_second : (c : List Entry) → b ≡ c ++ (e ∷ []) → m ≡ a ++ c → Last a b m e

last_of : (a b m : List Entry) (e : Entry) → a ++ b ≡ m ++ (e ∷ []) → Last a b m e
last_of [] b m e h = in_second m h refl
last_of (x ∷ []) [] [] e h = in_first refl h
last_of (x ∷ []) (y ∷ b) [] e h = let z : ◌≡◌ {A = ℕ} (suc (suc (length b))) 1 = ap length h in absurd (omega arith)
last_of (x ∷ (y ∷ a)) b [] e h = let z : ◌≡◌ {A = ℕ} (suc (suc (length (a ++ b)))) 1 = ap length h in absurd (omega arith)
last_of (x ∷ a) b (y ∷ m) e h =
    let p : x ≡ y = cc in
    let t : a ++ b ≡ m ++ (e ∷ []) = cc in
    elim (last_of a b m e t) [ in_first n q ↦ in_first n (cc) | in_second c n q ↦ in_second c n (cc) ]

no_length : (l : List Entry) → length l ≡ 0 → l ≡ []
no_length [] h = refl
no_length (x ∷ l) h = absurd (omega arith)

-- ---- no sector twice

abbrev In : ℕ → List ℕ → Type 0
In x [] = ⊥
In x (y ∷ ys) = (x ≡ y) ⊎ In x ys

abbrev Apart : List ℕ → Type 0
Apart [] = Unit {0}
Apart (x ∷ xs) = (In x xs → ⊥) × Apart xs

abbrev less : ℕ → List ℕ → List ℕ
less n [] = []
less n (x ∷ xs) = cond (eqb x n) xs (x ∷ less n xs)

less-length : (n : ℕ) (xs : List ℕ) → length xs ≤ suc (length (less n xs))
less-length n [] = omega arith
less-length n (x ∷ xs) =
    cond_both (eqb x n) xs (x ∷ less n xs) (λ ys. suc (length xs) ≤ suc (length ys)) (λ e. omega arith) (λ e. omega (arith, less-length n xs))

less_in : (n : ℕ) (xs : List ℕ) (y : ℕ) → In y (less n xs) → In y xs
less_in n [] y = λ m. m
less_in n (x ∷ xs) y =
    cond_both (eqb x n) xs (x ∷ less n xs) (λ ys. In y ys → In y (x ∷ xs)) (λ e m. inr m) (λ e. ⊎_elim (λ i. inl i) (λ i. inr (less_in n xs y i)))

less-apart : (n : ℕ) (xs : List ℕ) → Apart xs → Apart (less n xs)
less-apart n [] k = tt
less-apart n (x ∷ xs) k =
    cond_both (eqb x n) xs (x ∷ less n xs) Apart (λ e. k.1) (λ e. (λ m. k.0 (less_in n xs x m), less-apart n xs k.1))

less_out : (n : ℕ) (xs : List ℕ) → Apart xs → In n (less n xs) → ⊥
less_out n [] k = λ m. m
less_out n (x ∷ xs) k =
    cond_both (eqb x n) xs (x ∷ less n xs) (λ ys. In n ys → ⊥)
    (λ e m. k.0 (subst (λ y. In y xs) (sym (eqb-true x n e)) m))
    (λ e. ⊎_elim (λ i. eqb-false x n e (sym i)) (λ i. less_out n xs k.1 i))

-- so many numbers below n, each once, are at most n
few : (n : ℕ) (xs : List ℕ) → Apart xs → ((x : ℕ) → In x xs → x < n) → length xs ≤ n
few zero [] k b = omega arith
few zero (x ∷ xs) k b = absurd (let h : x < 0 = b x (inl refl) in omega arith)
few (suc n) xs k b =
    let low : (x : ℕ) → In x (less n xs) → x < n =
    λ x m. ⊎_elim (λ (e : x ≡ n). absurd (less_out n xs k (subst (λ y. In y (less n xs)) e m))) (λ (e : x ≡ n → ⊥). let h : x < suc n = b x (less_in n xs x m) in omega arith) (cases_eq x n) in
    omega (arith, few n (less n xs) (less-apart n xs k) low, less-length n xs)

copied-has : (s : ℕ) (l : List Entry) → In s (sectors_copied l) → Has s l
copied-has s [] m = m
copied-has s (written t ∷ l) m = inr (copied-has s l m)
copied-has s (copied t ∷ l) (inl e) = inl e
copied-has s (copied t ∷ l) (inr m) = inr (copied-has s l m)
copied-has s (seal ∷ l) m = inr (copied-has s l m)

has_front : (s : ℕ) (a b : List Entry) → Has s a → Has s (a ++ b)
has_front s [] b m = elim m [ ]
has_front s (x ∷ a) b (inl e) = inl e
has_front s (x ∷ a) b (inr m) = inr (has_front s a b m)

has_end : (s : ℕ) (a : List Entry) (e : Entry) → Of s e → Has s (a ++ (e ∷ []))
has_end s [] e o = inl o
has_end s (x ∷ a) e o = inr (has_end s a e o)

in_front : (s : ℕ) (a b : List Entry) → In s (sectors_copied a) → In s (sectors_copied (a ++ b))
in_front s [] b m = elim m [ ]
in_front s (written t ∷ a) b m = in_front s a b m
in_front s (copied t ∷ a) b (inl e) = inl e
in_front s (copied t ∷ a) b (inr m) = inr (in_front s a b m)
in_front s (seal ∷ a) b m = in_front s a b m

apart_front : (a b : List Entry) → Apart (sectors_copied (a ++ b)) → Apart (sectors_copied a)
apart_front [] b k = tt
apart_front (written t ∷ a) b k = apart_front a b k
apart_front (copied t ∷ a) b k = (λ m. k.0 (in_front t a b m), apart_front a b k.1)
apart_front (seal ∷ a) b k = apart_front a b k

copied-append : (a b : List Entry) → length (sectors_copied (a ++ b)) ≤ length (sectors_copied a) + length b
copied-append [] [] = omega arith
copied-append [] (written t ∷ b) = omega (arith, copied-append [] b)
copied-append [] (copied t ∷ b) = omega (arith, copied-append [] b)
copied-append [] (seal ∷ b) = omega (arith, copied-append [] b)
copied-append (written t ∷ a) b = copied-append a b
copied-append (copied t ∷ a) b = omega (arith, copied-append a b)
copied-append (seal ∷ a) b = copied-append a b

-- ---- what every step keeps

-- All that is copied is copied once, but for the oldest entry where it is half collected.
abbrev Once : List Entry → ℕ → Type 0
Once l half = (m t : List Entry) × (l ≡ m ++ t) × (length t ≡ half) × Apart (sectors_copied m)

-- At every place in the part c ++ d of the log, with n entries behind it: the entries added since, at fourteen looks each, are
-- at most what was there then and is owed.
abbrev Places : (most owed n : ℕ) → List Entry → Type 0
Places most owed n a = (c d : List Entry) → a ≡ c ++ d → 14 * added c + (length d + n) < most + owed

-- The log has two parts: a, since it was last no longer than the threshold, and b, what is left of what was there then.
record Paid (threshold most : ℕ) (l : List Entry) (half owed : ℕ) : Type 0 where
  a : List Entry
  b : List Entry
  parts : l ≡ a ++ b
  places : Places most owed (length b) a
  since : 0 < length b → 14 * added a + length b ≤ threshold + owed
  kept : 0 < length b → length (sectors_copied a) + length b ≤ threshold + half

record Held (sectors threshold most : ℕ) (l : List Entry) (half owed : ℕ) : Type 0 where
  small : half ≤ 1
  within : (s : ℕ) → Has s l → s < sectors
  once : Once l half
  paid : Paid threshold most l half owed

-- one place more, at the head
places_add : (most owed then n : ℕ) (e : Entry) (a : List Entry) → 14 * added (e ∷ []) + owed ≤ then → suc (length a) + n < most + then → Places most owed n a → Places most then n (e ∷ a)
places_add most owed then n e a w h k [] d p = omega (arith, ap length p)
places_add most owed then n e a w h k (x ∷ c) d p =
    let q : a ≡ c ++ d = cc in
    let i : e ≡ x = cc in
    omega (arith, k c d q, added-append (x ∷ []) c, ap (λ (y : Entry). added (y ∷ [])) i)

-- one entry less, at the tail
places-less : (most owed n : ℕ) (a : List Entry) (e : Entry) → Places most owed n (a ++ (e ∷ [])) → Places most (owed - 1) n a
places-less most owed n a e k c d p =
    let q : a ++ (e ∷ []) ≡ c ++ (d ++ (e ∷ [])) = ap (λ (x : List Entry). x ++ (e ∷ [])) p ∙ append_assoc c d (e ∷ []) in
    omega (arith, k c (d ++ (e ∷ [])) q, length-append d (e ∷ []))

-- how long it may be
module _ (sectors threshold most : ℕ) (some : 0 < most) (live : 14 * sectors ≤ 13 * most) (low : 15 * threshold ≤ 14 * most) where
  copied-few : (l : List Entry) (half owed : ℕ) → Held sectors threshold most l half owed → length (sectors_copied l) ≤ sectors + half
  copied-few l half owed k =
      let m = k.once.0 in
      let t = k.once.1 in
      let e = k.once.2 in
      let f = few sectors (sectors_copied m) k.once.4 (λ s i. k.within s (subst (Has s) (sym e) (has_front s m t (copied-has s m i)))) in
      omega (arith, f, copied-append m t, k.once.3, ap (λ (x : List Entry). length (sectors_copied x)) e)

  fits : (l : List Entry) (half owed : ℕ) → Held sectors threshold most l half owed → 14 * length l < 14 * (most + half) + owed
  fits l half owed k =
      let p = k.paid in
      let n = ap length p.parts ∙ length-append p.a p.b in
      let f = copied-few l half owed k in
      let w = p.places p.a [] (sym (append-nil p.a)) in
      let u = ap added p.parts ∙ added-append p.a p.b in
      let v = length_parts p.a in
      let x = length_parts l in
      ⊎_elim
      (λ (h : 0 < length p.b). omega (arith, p.since h, p.kept h))
      (λ (h : length p.b ≤ 0). let z = ap added (no_length p.b (omega arith)) in omega arith)
      (cases_lt 0 (length p.b))

  held-empty : Held sectors threshold most [] 0 0
  held-empty =
      record {
        small = omega arith;
        within = λ s m. elim m [ ];
        once = ([], [], refl, refl, tt);
        paid = record { a = []; b = []; parts = refl; places = λ c d p. none c d (sym p); since = λ h. absurd (omega arith); kept = λ h. absurd (omega arith) };
      }
    where
      none : (c d : List Entry) → c ++ d ≡ [] → 14 * added c + (length d + 0) < most + 0
      none c d p = let n = sym (length-append c d) ∙ ap length p in omega (arith, length_parts c)

  -- an entry is added that is no copy, and fourteen looks are owed for it beside
  held-add : (e : Entry) → added (e ∷ []) ≡ 1 → ((m : List Entry) → sectors_copied (e ∷ m) ≡ sectors_copied m) → ((s : ℕ) → Of s e → s < sectors) → (l : List Entry) (half owed : ℕ) → Held sectors threshold most l half owed → Held sectors threshold most (e ∷ l) half (owed + 14)
  held-add e one none under l half owed k =
      let p = k.paid in
      let n = ap length p.parts ∙ length-append p.a p.b in
      let f = fits l half owed k in
      let more = ap length (none p.a) in
      let j = added-append (e ∷ []) p.a in
      let r = k.small in
      record {
        small = k.small;
        within = λ s. ⊎_elim (λ o. under s o) (λ m. k.within s m);
        once = (e ∷ k.once.0, k.once.1, ap (λ (x : List Entry). e ∷ x) k.once.2, k.once.3, subst Apart (sym (none k.once.0)) k.once.4);
        paid =
            record {
              a = e ∷ p.a;
              b = p.b;
              parts = ap (λ (x : List Entry). e ∷ x) p.parts;
              places = places_add most owed (owed + 14) (length p.b) e p.a (omega arith) (omega arith) p.places;
              since = λ h. omega (arith, p.since h);
              kept = λ h. omega (arith, p.kept h);
            };
      }

  -- so, while the log is no longer than the threshold: all that it holds then is what was there
  held_low : (e : Entry) → added (e ∷ []) ≡ 1 → ((m : List Entry) → sectors_copied (e ∷ m) ≡ sectors_copied m) → ((s : ℕ) → Of s e → s < sectors) → (l : List Entry) (half owed : ℕ) → Held sectors threshold most l half owed → length l ≤ threshold → Held sectors threshold most (e ∷ l) half 14
  held_low e one none under l half owed k short =
      let more = ap length (none []) in
      record {
        small = k.small;
        within = λ s. ⊎_elim (λ o. under s o) (λ m. k.within s m);
        once = (e ∷ k.once.0, k.once.1, ap (λ (x : List Entry). e ∷ x) k.once.2, k.once.3, subst Apart (sym (none k.once.0)) k.once.4);
        paid =
            record {
              a = e ∷ [];
              b = l;
              parts = refl;
              places = places_add most 0 14 (length l) e [] (omega arith) (omega arith) (λ c d q. start c d (sym q));
              since = λ h. omega arith;
              kept = λ h. omega arith;
            };
      }
    where
      start : (c d : List Entry) → c ++ d ≡ [] → 14 * added c + (length d + length l) < most + 0
      start c d q = let n = sym (length-append c d) ∙ ap length q in omega (arith, length_parts c)

  -- the oldest is copied
  held-copy : (l : List Entry) (e : Entry) (owed s : ℕ) → Held sectors threshold most (l ++ (e ∷ [])) 0 owed → 0 < owed → Of s e → (Has s l → ⊥) → Held sectors threshold most (copied s ∷ (l ++ (e ∷ []))) 1 owed
  held-copy l e owed s k o of new =
      let p = k.paid in
      let rest = no_length k.once.1 k.once.3 in
      let whole = k.once.2 ∙ ap (λ (x : List Entry). k.once.0 ++ x) rest ∙ append-nil k.once.0 in
      let alone : Apart (s ∷ sectors_copied l) =
      (λ m. new (copied-has s l m), apart_front l (e ∷ []) (subst (λ (x : List Entry). Apart (sectors_copied x)) (sym whole) k.once.4)) in
      let under : (t : ℕ) → In t (s ∷ sectors_copied l) → t < sectors =
      λ t. ⊎_elim (λ i. subst (λ u. u < sectors) (sym i) (k.within s (has_end s l e of))) (λ m. k.within t (has_front t l (e ∷ []) (copied-has t l m))) in
      let f = few sectors (s ∷ sectors_copied l) alone under in
      record {
        small = omega arith;
        within = λ t. ⊎_elim (λ i. subst (λ u. u < sectors) (sym i) (k.within s (has_end s l e of))) (λ m. k.within t m);
        once = (copied s ∷ l, e ∷ [], refl, refl, alone);
        paid =
            record {
              a = copied s ∷ p.a;
              b = p.b;
              parts = ap (λ (x : List Entry). copied s ∷ x) p.parts;
              places = places_add most owed owed (length p.b) (copied s) p.a (omega arith) (room p f) p.places;
              since = p.since;
              kept = λ h. omega (arith, p.kept h);
            };
      }
    where
      room : (p : Paid threshold most (l ++ (e ∷ [])) 0 owed) → suc (length (sectors_copied l)) ≤ sectors → suc (length p.a) + length p.b < most + owed
      room p f =
          let u = length_parts l in
          let v = length_parts p.a in
          elim (last_of p.a p.b l e (sym p.parts)) [
            | in_first n q ↦ omega (arith, p.places l (e ∷ []) q, ap length n, ap length q, length-append l (e ∷ []))
            | in_second c n q ↦
                let x = ap length n ∙ length-append c (e ∷ []) in
                let y = ap length q ∙ length-append p.a c in
                ⊎_elim
                (λ (h : 0 < length c). omega (arith, p.since (omega arith), p.kept (omega arith)))
                (λ (h : length c ≤ 0).
                let z = q ∙ ap (λ (d : List Entry). p.a ++ d) (no_length c (omega arith)) ∙ append-nil p.a in
                omega (arith, p.places p.a [] (sym (append-nil p.a)), ap added z, ap length z))
                (cases_lt 0 (length c))
          ]

  -- the tail moves past the oldest
  held-pass : (l : List Entry) (e : Entry) (half owed : ℕ) → Held sectors threshold most (l ++ (e ∷ [])) half owed → Held sectors threshold most l 0 (owed - 1)
  held-pass l e half owed k =
      record {
        small = omega arith;
        within = λ s m. k.within s (has_front s l (e ∷ []) m);
        once = front k.once k.small;
        paid = less-paid k.paid k.small;
      }
    where
      front : Once (l ++ (e ∷ [])) half → half ≤ 1 → Once l 0
      front o h = (
        l,
        [],
        sym (append-nil l),
        refl,
        elim (last_of o.0 o.1 l e (sym o.2)) [
          | in_first n q ↦ apart_front l (e ∷ []) (subst (λ (x : List Entry). Apart (sectors_copied x)) q o.4)
          | in_second c n q ↦
              let x = ap length n ∙ length-append c (e ∷ []) in
              let z = q ∙ ap (λ (d : List Entry). o.0 ++ d) (no_length c (omega (arith, o.3))) ∙ append-nil o.0 in
              subst (λ (y : List Entry). Apart (sectors_copied y)) (sym z) o.4
        ],
      )

      less-paid : Paid threshold most (l ++ (e ∷ [])) half owed → half ≤ 1 → Paid threshold most l 0 (owed - 1)
      less-paid p h =
          elim (last_of p.a p.b l e (sym p.parts)) [
            | in_first n q ↦
                record {
                  a = l;
                  b = [];
                  parts = sym (append-nil l);
                  places = places-less most owed 0 l e (subst (λ (x : List Entry). Places most owed 0 x) q (subst (λ (x : List Entry). Places most owed (length x) p.a) n p.places));
                  since = λ g. absurd (omega arith);
                  kept = λ g. absurd (omega arith);
                }
            | in_second c n q ↦
                let x = ap length n ∙ length-append c (e ∷ []) in
                record {
                  a = p.a;
                  b = c;
                  parts = q;
                  places = λ f g r. omega (arith, p.places f g r);
                  since = λ g. omega (arith, p.since (omega arith));
                  kept = λ g. omega (arith, p.kept (omega arith));
                }
          ]

  -- more is taken to be owed
  held_more : (l : List Entry) (half owed more : ℕ) → owed ≤ more → Held sectors threshold most l half owed → Held sectors threshold most l half more
  held_more l half owed more h k =
      let p = k.paid in
      record {
        small = k.small;
        within = k.within;
        once = k.once;
        paid =
            record {
              a = p.a;
              b = p.b;
              parts = p.parts;
              places = λ c d e. omega (arith, p.places c d e);
              since = λ g. omega (arith, p.since g);
              kept = p.kept;
            };
      }

  of-written : (s : ℕ) → s < sectors → (t : ℕ) → Of t (written s) → t < sectors
  of-written s h t e = omega arith

  -- every step keeps it
  held : {debt : ℕ} {l : List Entry} {half owed : ℕ} → LogSteps sectors threshold debt l half owed → Held sectors threshold most l half owed
  held LogSteps.empty = held-empty
  held (LogSteps.writes {l = l} {half = half} {owed = owed} s r h (inl z)) =
      subst (λ o. Held sectors threshold most (written s ∷ l) half (o + 14)) z (held-add (written s) refl (λ m. refl) (of-written s h) l half owed (held r))
  held (LogSteps.writes {l = l} {half = half} {owed = owed} s r h (inr z)) = held_low (written s) refl (λ m. refl) (of-written s h) l half owed (held r) z
  held (LogSteps.flushes {l = l} {half = half} {owed = owed} r (inl z)) =
      subst (λ o. Held sectors threshold most (seal ∷ l) half (o + 14)) z (held-add seal refl (λ m. refl) (λ s o. absurd o) l half owed (held r))
  held (LogSteps.flushes {l = l} {half = half} {owed = owed} r (inr z)) = held_low seal refl (λ m. refl) (λ s o. absurd o) l half owed (held r) z
  held (LogSteps.comes_up {l = l} {half = half} {owed = owed} r d) = held-add seal refl (λ m. refl) (λ s o. absurd o) l half owed (held r)
  held (LogSteps.reckons {l = l} {half = half} {owed = owed} more r h d) = held_more l half owed more h (held r)
  held (LogSteps.copies {owed = owed} l e s r o of new) = held-copy l e owed s (held r) o of new
  held (LogSteps.passes {half = half} {owed = owed} l e r stale) = held-pass l e half owed (held r)

pub log_fits : LogFits
log_fits sectors threshold debt most some live low l half owed r =
    fits sectors threshold most some live low l half owed (held sectors threshold most some live low r)

-- no more is ever owed than for the newest entry beside the debt
owed_few : {sectors threshold debt : ℕ} {l : List Entry} {half owed : ℕ} → LogSteps sectors threshold debt l half owed → owed ≤ debt + 14
owed_few LogSteps.empty = omega arith
owed_few (LogSteps.writes s r h d) = omega arith
owed_few (LogSteps.flushes r d) = omega arith
owed_few (LogSteps.comes_up r d) = omega arith
owed_few (LogSteps.reckons more r h d) = d
owed_few (LogSteps.copies l e s r o of new) = owed_few r
owed_few (LogSteps.passes l e r stale) = omega (arith, owed_few r)

pub log_length : LogLength
log_length sectors threshold debt most some live low k h l half owed r =
    let f = log_fits sectors threshold debt most some live low l half owed r in
    let o = owed_few r in
    ((held sectors threshold most some live low r).small, omega arith)

-- ---- the chips of the sheet

-- of blocks, what is left for the log is more than 28 in 39
most_blocks : (blocks : ℕ) → 32 ≤ blocks → 28 * blocks ≤ 39 * (good_blocks blocks - 3 - spare_blocks blocks)
most_blocks blocks h = omega arith

eights : (n q pages : ℕ) → pages ≡ 8 * q → n * pages ≡ 8 * (n * q)
eights n q pages e = ap (λ p. n * p) e ∙ mul_left_comm n 8 q

-- n blocks, without a page of each
without_headers : (n pages : ℕ) → 0 < pages → n * (pages - 1) + n ≡ n * pages
without_headers n pages h =
    let e : (pages - 1) + 1 ≡ pages = omega arith in
    let f : n * 1 ≡ n = mul-one n in
    let g = mul-add n (pages - 1) 1 in
    omega (arith, ap (λ p. n * p) e)

-- so many blocks hold fourteen thirteenths of all sectors
blocks_suffice : (blocks n q pages : ℕ) → pages ≡ 8 * q → 2 ≤ q → 28 * blocks ≤ 39 * n → 14 * size_of (blocks * pages) ≤ 13 * (n * (pages - 1))
blocks_suffice blocks n q pages e h m =
    let u = eights blocks q pages e in
    let w = eights n q pages e in
    let x = without_headers n pages (omega arith) in
    let y = mul-le-mul_right q m in
    let y1 = mul_assoc 28 blocks q in
    let y2 = mul_assoc 39 n q in
    let z = mul-le-mul_left n h in
    let v = mul_comm n 2 in
    omega arith

pub room_suffices : RoomSuffices
room_suffices blocks pages (b, p, e) =
    let m = most_blocks blocks b in
    let n : 0 < good_blocks blocks - 3 - spare_blocks blocks = positive (good_blocks blocks - 3 - spare_blocks blocks) m in
    let i : pages ≡ 8 * (pages / 8) = omega arith in
    let j : 2 ≤ pages / 8 = omega arith in
    let k : 0 < pages - 1 = omega arith in
    (mul-pos n k, blocks_suffice blocks (good_blocks blocks - 3 - spare_blocks blocks) (pages / 8) pages i j m, rounded (log_room blocks pages))
  where
    positive : (n : ℕ) → 28 * blocks ≤ 39 * n → 0 < n
    positive n m = omega arith

    rounded : (n : ℕ) → 15 * (14 * n / 15) ≤ 14 * n
    rounded n = omega arith

-- full blocks that are in a log of so many entries
few_blocks : (full n pages count : ℕ) → 0 < pages → full * (pages - 1) + 2 ≤ count → count ≤ n * (pages - 1) + pages → full ≤ n
few_blocks full n pages count p h k =
    ⊎_elim
    (λ (g : n < full). let f = mul-le-mul_right (pages - 1) g in let e = suc-mul n (pages - 1) in absurd (omega arith))
    (λ (g : full ≤ n). g)
    (cases_lt n full)

pub spare_stays_free : SpareStaysFree
spare_stays_free blocks pages debt sheet d l half owed r full h =
    let s = room_suffices blocks pages sheet in
    let p : 0 < pages = omega (arith, sheet.1) in
    let o : debt ≤ 14 * (pages - 1) = omega arith in
    let k = log_length (size_of (blocks * pages)) (log_threshold blocks pages) debt (log_room blocks pages) s.0 s.1 s.2 (pages - 1) o l half owed r in
    let c = few_blocks full (good_blocks blocks - 3 - spare_blocks blocks) pages (length l) p h (bound (log_room blocks pages) k.0 k.1 p) in
    left (good_blocks blocks) (spare_blocks blocks) (most_blocks blocks sheet.0) sheet.0 c
  where
    bound : (room : ℕ) → half ≤ 1 → length l ≤ room + half + (pages - 1) → 0 < pages → length l ≤ room + pages
    bound room a b p = omega arith

    left : (good spare : ℕ) → 28 * blocks ≤ 39 * (good - 3 - spare) → 32 ≤ blocks → full ≤ good - 3 - spare → full + 3 + spare ≤ good
    left good spare m b f = omega arith
