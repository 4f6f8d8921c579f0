use Rattle.std.proofs.Common.{get_or}
use lib.Bits.{bit_xor}
use Rattle.std.proofs.lemmas.List.{set_past}
use Rattle.codec.specs.Mending.{mended}
use Rattle.codec.proofs.check.mend.Goals as goal

pub returns-then-i-piece : goal.returns-then-i-piece
unfolding mended
returns-then-i-piece c = cc

pub returns-else-i-piece : goal.returns-else-i-piece
unfolding mended
returns-else-i-piece c =
    let i = bit_xor c.args.parity.index c.parity_of-found.result.index in
    let e = set_past c.args.piece.now i (bit_xor (get_or c.args.piece.now i 0) (bit_xor c.args.parity.sum c.parity_of-found.result.sum)) c.if-i-piece.false in
    cc
