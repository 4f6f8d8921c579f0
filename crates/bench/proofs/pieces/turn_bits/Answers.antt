use Rattle.std.proofs.Common.{refl, arith}
use Rattle.bench.proofs.Turning.{turned_more, same_piece, nearly_each}
use Rattle.bench.proofs.pieces.turn_bits.Goals as goal
use Rattle.bench.proofs.pieces.turn_bits.Goals.{then-draw-eq1, else-draw-eq1}

pub loop-piece-preserved : goal.loop-piece-preserved
loop-piece-preserved c =
    let i = c.loop-piece.piece in
    let old = c.args.page.now in
    let page = c.loop-piece.page in
    let inv = c.loop-piece.invariant in
    elim c.if-draw-eq1.branch [
      | then-draw-eq1 w ↦
          let more = turned_more i old page w.turn_bit.new.page c.if-draw-eq1.page w.page-is inv.0 inv.1 w.turn_bit.ensures.here w.turn_bit.ensures.others in
          (more.0, more.1, omega (arith, w.turned-is))
      | else-draw-eq1 w ↦
          let more = turned_more i old page page c.if-draw-eq1.page w.page-is inv.0 inv.1 (same_piece page i) (λ j ne. refl) in
          (more.0, more.1, omega (arith, w.turned-is))
    ]

pub returns-clause-near : goal.returns-clause-near
returns-clause-near c = nearly_each 17 c.args.page.now c.loop-piece.page (λ j h. c.loop-piece.invariant.0 j (omega arith))
