use Rattle.std.proofs.Common.{◌∙◌, inl, inr, ⊎_elim, arith, rules}
use mir.Facts.{Fits-lt-pow}
use Rattle.codec.proofs.Steps.{sum_apart}
use Rattle.codec.proofs.mark.bits_apart.Goals as goal

pub returns : goal.returns
returns c =
    let r = c.sum.ensures.runs tt in
    r.3
    ∙ sum_apart r.0 (λ s. s.iter.a.rest.now) (λ s. s.iter.b.rest.now) c.args.a.now c.args.b.now r.2 (search rules) (search rules) (omega arith)
    (λ i. Fits-lt-pow (c.type_inv.a i)) (λ i. Fits-lt-pow (c.type_inv.b i))
    (λ s n t h. (h.0.0.now, h.0.1.now, h.1.0, h.1.1, search rules))
    (λ s t h. ⊎_elim (λ k. inl k.1.0) (λ k. inr k.1.0) h.0)
