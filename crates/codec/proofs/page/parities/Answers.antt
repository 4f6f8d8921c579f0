use Rattle.std.proofs.Common.{◌≡◌, ◌*◌, length, take, refl, ap, ◌∙◌, arith, rules, length-drop, length-take}
use Rattle.std.proofs.lemmas.List.{length-set}
use Rattle.std.specs.Slice.Iter.{chunks_exact_rest, chunks_exact_size}
use Rattle.codec.specs.Mending.{column, places}
use Rattle.codec.specs.Pages.{checks}
use Rattle.codec.proofs.Writing.{chunk_next, guard_more, guard_done}
use Rattle.codec.proofs.page.parities.Goals as goal

pub loop-i-init : goal.loop-i-init
unfolding checks
loop-i-init c =
    let e : c.into_iter-i-iterator.result.count ≡ 0 = search rules in
    let f : chunks_exact_rest c.into_iter-i-iterator.result.iter ≡ take 4096 c.args.pieces.now = search rules in
    let g : chunks_exact_size c.into_iter-i-iterator.result.iter ≡ 256 = search rules in
    rw e (refl, refl, omega arith, g, f)

pub loop-i-preserved : goal.loop-i-preserved
loop-i-preserved c =
    let v = c.loop-i.invariant in
    let s = c.in-Some.ensures.steps in
    let i = c.loop-i.i-iterator.count in
    let k = chunk_next c.args.pieces.now c.in-Some.piece.now _ _ i c.requires v.4 s.0.1.0 (s.0.1.1 ∙ v.3) in
    let p = c.parity_of-parity.ensures in
    rw (s.1, s.2) (
      simp length-set v.0,
      guard_more i c.loop-i.checks c.args.pieces.now _ _ v.0 k.0 v.1 (p.sum ∙ ap column k.1) (p.index ∙ ap (places 0) k.1),
      omega (arith, k.0),
      s.0.0 ∙ v.3,
      k.2,
    )

pub returns : goal.returns
returns c =
    let v = c.loop-i.invariant in
    let s = c.in-None.ensures.steps in
    let i = c.loop-i.i-iterator.count in
    let d = c.args.pieces.now in
    let n : i ≡ 16 = omega (arith, s.0.1.0, v.3, ap length v.4, length-drop (256 * i) (take 4096 d), length-take 4096 d) in
    guard_done i c.loop-i.checks d _ v.0 n v.1 c.parity_of.ensures.sum
