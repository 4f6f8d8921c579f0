use Rattle.std.proofs.Common.{◌+◌, ◌*◌, get_or, ap}
use lib.Bits.{bit_xor}
use Rattle.bench.proofs.Turning.{turned_here, turned_other}
use Rattle.bench.proofs.pieces.turn_bit.Goals as goal

pub returns : goal.returns
returns c =
    let p = c.args.page.now in
    let a = c.args in
    record {
      here = turned_here p a.piece a.index a.bit _ c.requires.0 c.requires.1.0 (ap (bit_xor (get_or p (256 * a.piece + a.index) 0)) c.single.ensures);
      others = λ j ne. turned_other p a.piece a.index _ j c.requires.1.0 ne;
    }
