use Rattle.std.proofs.Common.{refl}
use Rattle.codec.specs.Mending.{column, places}
use Rattle.codec.proofs.Mending.{column_more, places_more}
use Rattle.codec.proofs.check.parity_of.Goals as goal

pub loop-i-init : goal.loop-i-init
unfolding column places
loop-i-init c = (refl, refl)

pub loop-i-preserved : goal.loop-i-preserved
loop-i-preserved c =
    let s = c.args.piece.now in
    let i = c.loop-i.i in
    let e = column_more s i c.loop-i-test.true in
    let f = places_more s i c.loop-i-test.true in
    (cc, cc)
