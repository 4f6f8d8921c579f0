use Rattle.std.proofs.Common.{◌≡◌, ◌*◌, take, drop}
use Rattle.codec.specs.Pages.{repaired}
use Rattle.codec.proofs.page.unseal.Given as goal

abbrev pub invariant-loop-i : goal.invariant-loop-i
invariant-loop-i l =
    (take (256 * l.i) l.page ≡ repaired l.i (drop 1 l.checks) l.initial.page)
    × (drop (256 * l.i) l.page ≡ drop (256 * l.i) l.initial.page)
