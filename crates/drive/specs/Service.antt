-- What the drive's own functions keep.
-- Assumes nothing.
use Rattle.std.specs.Prelude.{◌≡◌, ℕ, ◌*◌, ◌/◌, ◌<◌, false, List, Some, None, Ok, Err, Option, Result, ◌≢◌}
use Rattle.std.specs.Option.{option_map}
use Rattle.drive.specs.Nand.{Nand}
use Rattle.drive.specs.Journals.{Ready}
use Rattle.drive.specs.Queue.{slot_at}
use Rattle.drive.specs.declared.Ask.{Ask}
use Rattle.drive.specs.declared.Gone.{Gone}
use Rattle.drive.specs.declared.Drive.{Drive}
use Rattle.drive.specs.declared.Ended.{Ended}
use Rattle.drive.specs.declared.queue.Queue.{Queue}
use Rattle.drive.specs.declared.queue.Pending.{Pending}
use Rattle.drive.specs.declared.service.Served.{Served}
use Rattle.drive.specs.declared.service.Served.TheVariants.{More, Idle, Ended as Ended'}

-- what was asked, if a command is under way
abbrev pub ask_of : Option Pending → Option Ask
ask_of s = option_map (λ (p : Pending). p.ask) s

-- the command under a tag
abbrev pub ask_at : Queue → ℕ → Option Ask
ask_at q t = ask_of (slot_at q t)

-- the same commands are under way
abbrev pub SameAsks : Queue → Queue → Type 0
SameAsks q p = (t : ℕ) → t < 8 → ask_at p t ≡ ask_at q t

-- a command was under way and has ended; the others are under way as before
pub record Ends (q : Queue) (e : Ended) (p : Queue) : Type 0 where
  pub tagged : e.tag < 8
  pub was : ask_at q e.tag ≡ Some e.ask
  pub freed : ask_at p e.tag ≡ None
  pub others : (t : ℕ) → t < 8 → (t ≢ e.tag) → ask_at p t ≡ ask_at q t

-- what a turn does to the commands under way
abbrev pub Turns : Queue → Result (Option Ended) Gone → Queue → Type 0
Turns q (Ok None) p = SameAsks q p
Turns q (Ok (Some e)) p = Ends q e p
Turns q (Err e) p = Unit {0}

-- between turns: the chip, the drive and the room are ready for the next
abbrev pub Standing : Nand → Drive → List ℕ → Type 0
Standing n d room = Ready n d.journal room × (d.journal.asks ≡ 0)

-- after coming up: no command is under way, and all is ready
abbrev pub Came : Result Drive Gone → Nand → List ℕ → Type 0
Came (Ok d) n room = Standing n d room × ((t : ℕ) → slot_at d.queue t ≡ None)
Came (Err e) n room = n.on ≡ false

-- after a turn: all is ready for the next, or the power has gone
abbrev pub Kept : {A : Type 0} → Result A Gone → Nand → Drive → List ℕ → Type 0
Kept (Ok x) n d room = Standing n d room
Kept (Err e) n d room = n.on ≡ false

-- how many sectors a drive has
abbrev pub sectors_of : Drive → ℕ
sectors_of d = 5 * d.journal.shape.total / 8

-- what a step for the command that came first does to the commands under way
abbrev pub Serves : Queue → Result Served Gone → Queue → Type 0
Serves q (Ok More) p = SameAsks q p
Serves q (Ok Idle) p = SameAsks q p
Serves q (Ok (Ended' e)) p = Ends q e p
Serves q (Err e) p = Unit {0}
