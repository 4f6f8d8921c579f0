use Rattle.std.proofs.Common.{sym, ap, ◌∙◌, arith}
use Rattle.std.proofs.lemmas.List.{take_all}
use Rattle.codec.specs.Bits.{apart}
use Rattle.codec.proofs.Shown.{shown_then}
use Rattle.codec.proofs.mark.read_mark.Goals as goal

pub returns : goal.returns
returns c =
    let whole = sym (take_all 192 c.write_mark.new.page (omega arith)) ∙ c.write_mark.ensures in
    c.then_some.ensures
    ∙ shown_then c.args.area.now c.copy_from_slice.new.self _ (c.copy_from_slice.ensures.after ∙ c.candidate.ensures.only)
    (c.bits_apart.ensures ∙ ap (λ w. apart w c.args.area.now) whole)
