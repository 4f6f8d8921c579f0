-- A drive stays ready while it isn't asked for a turn. Assumes nothing.
use Rattle.std.proofs.Common.{◌≡◌, ℕ, ◌<◌, ◌≤◌, List, length, Option, Some, None, refl, sym, ap, ◌∙◌, subst, ⊎_elim, arith}
use Rattle.std.proofs.lemmas.Bool.{cases_lt}
use Rattle.drive.specs.Nand.{Nand, allowed, dark}
use Rattle.drive.specs.Journals.{Ready}
use Rattle.drive.specs.Service.{Standing}
use Rattle.drive.specs.declared.Drive.{Drive}
use Rattle.drive.specs.declared.journal.Journal.{Journal}
use Rattle.player.specs.Drives.{Up}
use Rattle.drive.proofs.Readiness.{ready_same, ready_room}

-- a drive that was taken stands
pub standing_taken : (n : Nand) (o p : Option Drive) (d : Drive) (room : List ℕ) → p ≡ o → p ≡ Some d → Up n o room → Standing n d room
standing_taken n o p d room e f u = subst (λ (x : Option Drive). Up n x room) (sym e ∙ f) u

-- more may be asked of the chip
pub standing-allowed : (n m : Nand) (k : ℕ) (d : Drive) (room : List ℕ) → m ≡ allowed k n → Standing n d room → Standing m d room
standing-allowed n m k d room e s = (
  ready_same n m d.journal d.journal room room (ap (λ (x : Nand). x.blocks) e) (ap (λ (x : Nand). x.pages) e) (ap (λ (x : Nand). x.block) e)
      (omega (arith, s.1)) refl refl refl s.0,
  s.1,
)

-- a command was asked: the journal is the same, and the room as long
pub standing_asked : (n : Nand) (d e : Drive) (room room' : List ℕ) → e.journal ≡ d.journal → length room' ≡ length room → Standing n d room → Standing n e room'
standing_asked n d e room room' j len s =
    subst (λ (x : Journal). Ready n x room' × (x.asks ≡ 0)) (sym j) (ready_room n d.journal room room' len s.0, s.1)

-- the power goes, or it is said at which ask it will
up_dark : (n : Nand) (o : Option Drive) (room : List ℕ) → Up n o room → Up (dark n) o room
up_dark n None room u = tt
up_dark n (Some d) room u = (ready_same n (dark n) d.journal d.journal room room refl refl refl u.0.soon refl refl refl u.0, u.1)

pub up_cut : (n m : Nand) (k : ℕ) (o : Option Drive) (room : List ℕ) → (k ≡ 0 → m ≡ dark n) → (0 < k → m ≡ n) → Up n o room → Up m o room
up_cut n m k o room now later u =
    ⊎_elim (λ (p : 0 < k). subst (λ (x : Nand). Up x o room) (sym (later p)) u)
    (λ (p : k ≤ 0). subst (λ (x : Nand). Up x o room) (sym (now (omega arith))) (up_dark n o room u))
    (cases_lt 0 k)
