use Rattle.std.proofs.Common.{◌≡◌, take}
use Rattle.codec.specs.Mending.{column, places}
use Rattle.codec.proofs.check.parity_of.Given as goal

abbrev pub invariant-loop-i : goal.invariant-loop-i
invariant-loop-i l = (l.sum ≡ column (take l.i l.piece)) × (l.index ≡ places 0 (take l.i l.piece))
