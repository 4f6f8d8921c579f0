-- The queue and the commands under way keep step. Assumes nothing.
use Rattle.std.proofs.Common.{◌≡◌, ℕ, Bool, true, false, cond, ◌||◌, eqb, Option, Some, None, List, [], ◌∷◌, sym, refl, ap, ◌∙◌, arith}
use mathlib.Core.List.Memᴰ
use Rattle.std.proofs.lemmas.Bool.{ne_eqb}
use Rattle.std.proofs.lemmas.Bool.Decides.{nat_tests}
use Rattle.drive.specs.Bits.{some'}
use Rattle.drive.specs.Host.{Cmd, Way, Seen, begun, gone, ended}
use Rattle.drive.specs.Queue.{slot_at, busy, Puts, Adds, Under}
use Rattle.drive.specs.declared.Ask.{Ask}
use Rattle.drive.specs.declared.queue.Pending.{Pending}
use Rattle.drive.specs.declared.queue.Queue.{Queue}
use Rattle.drive.proofs.Ways.{Free, Single}

-- whether a tag is among those of some commands
abbrev tagged : ℕ → List Way → Bool
tagged t ws = some' (λ (w : Way). eqb t w.tag) ws

busy-put : (b : Bool) (p : Pending) (s : Option Pending) → busy (cond b (Some p) s) ≡ (b || busy s)
busy-put true p s = refl
busy-put false p s = refl

busy_freed : (b : Bool) (s : Option Pending) → busy (cond b None s) ≡ cond b false (busy s)
busy_freed true s = refl
busy_freed false s = refl

-- a command that is added is under way
pub under-begun : (q p : Queue) (h : Seen) (t : ℕ) (a : Ask) (c : Cmd) → Adds q t a p → Under q h → Under p (begun t c h)
unfolding some'
under-begun q p h t a c d u x l =
    ap busy (d.slots x l) ∙ busy-put (eqb x t) (record { ask = a; taken = 0; since = q.arrivals }) (slot_at q x) ∙ ap (λ (b : Bool). eqb x t || b) (u x l)

free_none : (t : ℕ) (ws : List Way) → Free t ws → tagged t ws ≡ false
unfolding some'
free_none t [] f = refl
free_none t (w ∷ ws) f =
    ap (λ (b : Bool). b || tagged t ws) (ne_eqb t w.tag (f w (Memᴰ.head refl))) ∙ free_none t ws (λ v m. f v (Memᴰ.tail m))

tagged-cond : (b : Bool) (t : ℕ) (vs ws : List Way) → tagged t (cond b vs ws) ≡ cond b (tagged t vs) (tagged t ws)
tagged-cond true t vs ws = refl
tagged-cond false t vs ws = refl

gone_step : (x t k : ℕ) (s g : Bool) → (x ≡ k → s ≡ false) → g ≡ cond (eqb x t) false s → cond (eqb t k) s (eqb x k || g) ≡ cond (eqb x t) false (eqb x k || s)
gone_step x t k s g f e = grind (arith, nat_tests)

tagged-gone : (x t : ℕ) (ws : List Way) → Single ws → tagged x (gone t ws) ≡ cond (eqb x t) false (tagged x ws)
unfolding some' gone Single
tagged-gone x t [] k = grind (arith, nat_tests)
tagged-gone x t (w ∷ ws) k =
    tagged-cond (eqb t w.tag) x ws (w ∷ gone t ws)
    ∙ gone_step x t w.tag (tagged x ws) (tagged x (gone t ws)) (λ e. free_none x ws (λ v m p. k.0 v m (sym e ∙ p))) (tagged-gone x t ws k.1)

-- a command whose slot is freed is under way no more
pub under-ended : (q p : Queue) (h : Seen) (w : Way) → Puts q w.tag None p → Single h.ways → Under q h → Under p (ended w h)
under-ended q p h w d k u x l =
    ap busy (d.slots x l) ∙ busy_freed (eqb x w.tag) (slot_at q x) ∙ ap (λ (b : Bool). cond (eqb x w.tag) false b) (u x l)
    ∙ sym (tagged-gone x w.tag h.ways k)
