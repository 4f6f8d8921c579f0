use Rattle.std.proofs.Common.{length, refl, sym, ◌∙◌, arith}
use Rattle.std.proofs.lemmas.List.{get_or-take, get_or_append_left, length-take-le}
use Rattle.exports.proofs.page_states.with_states.Goals as goal

pub returns : goal.returns
returns g c =
    let many = length c.args.codes.now in
    let left = length-take-le many c.unpack.new.states (omega (arith, c.if-codes-gt-MOST_PAGES.false, c.unpack.auto.states)) in (
      _,
      c.play-played.new.arg2,
      record { shown = _; shows = refl; left = _; met = c.play-played.ensures; leaves = refl },
      λ k r. c.unpack.ensures k r ∙ sym (get_or-take many c.unpack.new.states k _ r),
      λ k r. c.pack.ensures k r ∙ get_or_append_left c.play-played.new.arg2 _ _ k (omega (arith, r, c.pack.auto.codes, c.play-played.auto.arg2, left)),
    )
