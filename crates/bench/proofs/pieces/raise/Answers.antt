use Rattle.std.proofs.Common.{rules, of_calls, arith}
use Rattle.bench.proofs.Turning.{raise_more, under_each}
use Rattle.bench.proofs.pieces.raise.Goals as goal

pub loop-byte-preserved : goal.loop-byte-preserved
loop-byte-preserved g c =
    record { callable = search (rules, of_calls); raised = raise_more c.loop-byte.byte-index c.mask.result c.args.page.now c.loop-byte.page (omega arith) c.loop-byte.invariant.raised }

pub returns : goal.returns
returns g c = under_each c.args.page.now c.loop-byte.page (omega arith) (λ k h. c.loop-byte.invariant.raised.0 k (omega arith))
