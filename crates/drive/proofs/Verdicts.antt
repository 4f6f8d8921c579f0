-- What is told of a command, from what is known of its tag, its sectors and the drive. Assumes nothing.
use Rattle.std.proofs.Common.{◌≡◌, ℕ, ◌<◌, ◌≤◌, Bool, true, cond, ◌&&◌, ◌||◌, eqb, leb, Option, [], ◌∙◌, refl, ⊎_elim, arith}
use Rattle.std.proofs.lemmas.Bool.{cases_lt, le-leb}
use Rattle.std.proofs.lemmas.Bool.Decides.{nat_tests}
use Rattle.drive.specs.Bits.{some'}
use Rattle.drive.specs.Host.{Cmd, Way, Seen, changes, outside, why, wrong}
use Rattle.drive.specs.Promise.{can, cmd_of}
use Rattle.drive.specs.Admission.{many_of, Names, refused}
use Rattle.drive.specs.declared.Ask.{Ask}
use Rattle.drive.specs.declared.Ask.TheVariants.{Read, Write, Trim, Flush}
use Rattle.drive.specs.Queue.{slot_at, busy, Under, verdict}
use Rattle.refusals.specs.Refusals.{number, has, unfit, refusal, outside as span_outside}
use Rattle.refusals.specs.declared.Span.{Span}
use Rattle.refusals.specs.declared.Tags.{Tags}
use Rattle.refusals.specs.declared.Refusal.{Refusal}
use Rattle.refusals.specs.declared.Refusal.TheVariants.{Tag, Count, Range, WornOut, NotBuilt}
use Rattle.drive.specs.declared.queue.Queue.{Queue}
use Rattle.drive.proofs.Built.{all_built}

-- the tags of a queue name the commands under way
pub names : (q : Queue) (g : Tags) (h : Seen) → ((t : ℕ) → has g t ≡ busy (slot_at q t)) → Under q h → Names g h
names q g h e u t l = e t ∙ u t l

some_number : (e : Refusal) → 0 < number e
some_number Tag = omega arith
some_number Count = omega arith
some_number Range = omega arith
some_number WornOut = omega arith
some_number NotBuilt = omega arith

first_reason : (n w : ℕ) (b d : Bool) → 0 < n → b ≡ true → n ≡ cond (eqb w 0) (cond b 0 5) w → n ≡ cond (eqb w 0) (cond d 4 0) w
first_reason n w b d p t e = grind (arith, nat_tests)

-- a command that is turned away is told why
pub turned_away : (worn : Bool) (size : ℕ) (h : Seen) (t : ℕ) (c : Cmd) (e : Refusal) → number e ≡ refused size h t c → number e ≡ verdict worn size h t c
turned_away worn size h t c e r = first_reason (number e) (why size h t c) (can c) (worn && changes c) (some_number e) (all_built c) r

-- sectors are outside a drive by the promise where they are by the crate that judges them
pub same_outside : (size from many : ℕ) → span_outside size from many ≡ outside size from many
same_outside size from many = refl

same_reason : (n w : ℕ) (taken b low : Bool) → b ≡ true → n ≡ cond (low || taken) 1 w → n ≡ cond (eqb (cond (low || taken) 1 w) 0) (cond b 0 5) (cond (low || taken) 1 w)
same_reason n w taken b low t e = grind (arith, nat_tests)

-- what is judged by the tags and the sectors is what whoever asks is told
pub admitted : (g : Tags) (size t n : ℕ) (s : Option Span) (h : Seen) (c : Cmd) → n ≡ refusal size (has g t) t s → unfit size s ≡ wrong size c → Names g h → n ≡ refused size h t c
admitted g size t n s h c e u k =
    ⊎_elim
    (λ (l : t < 8). same_reason n (wrong size c) (some' (λ (w : Way). eqb t w.tag) h.ways) (can c) (leb 8 t) (all_built c) (rw (← k t l, ← u) e))
    (λ (l : 8 ≤ t). let z : leb 8 t ≡ true = le-leb 8 t l in grind (arith, nat_tests))
    (cases_lt t 8)

few_named : (size from many : ℕ) → outside size from many ≡ 0 → many ≤ 8
few_named size from many e = grind (arith, nat_tests)

-- a command whose sectors aren't outside names at most eight
few : (size : ℕ) (a : Ask) → wrong size (cmd_of a []) ≡ 0 → many_of a ≤ 8
unfolding wrong cmd_of
few size (Read from many) e = few_named size from many e
few size (Write from many) e = few_named size from many e
few size (Trim from many) e = few_named size from many e
few size Flush e = omega arith

-- so does one that may begin
pub few_begin : (size t n : ℕ) (taken : Bool) (s : Option Span) (a : Ask) → n ≡ refusal size taken t s → unfit size s ≡ wrong size (cmd_of a []) → n ≡ 0 → many_of a ≤ 8
few_begin size t n taken s a e u z = few size a (grind (arith, nat_tests))
