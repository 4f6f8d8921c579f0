use Rattle.std.proofs.Common.{refl, arith, rules}
use Rattle.codec.specs.Pages.{repaired}
use Rattle.codec.proofs.Steps.{unseal_step, unseal_done}
use Rattle.codec.proofs.page.unseal.Goals as goal

pub loop-i-init : goal.loop-i-init
unfolding repaired
loop-i-init c = (refl, refl)

pub loop-i-preserved : goal.loop-i-preserved
loop-i-preserved c =
    unseal_step c.loop-i.i c.loop-i.page c.args.page.now c.mend.new.piece c.mend-in-loop-i.new.piece (omega arith) (omega arith)
    c.loop-i.invariant.0 c.loop-i.invariant.1 (search rules)

pub returns : goal.returns
returns c =
    let r = unseal_done c.loop-i.i c.loop-i.page c.args.page.now c.mend.new.piece c.copy_from_slice.new.self (omega arith) c.loop-i.invariant
    c.mend.ensures c.copy_from_slice.ensures.after in
    record { found = r.0; rest = r.1 }
