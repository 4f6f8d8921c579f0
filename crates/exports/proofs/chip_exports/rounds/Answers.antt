use Rattle.std.proofs.Common.{◌∙◌}
use Rattle.exports.proofs.chip_exports.rounds.Goals as goal

pub loop-block-preserved : goal.loop-block-preserved
loop-block-preserved g c =
    let kept = c.loop-block.invariant.0 in
    let more = c.requires.keeps _ _ _ _ _ c.step.ensures in
    (record { blocks_kept = more.blocks_kept ∙ kept.blocks_kept; pages_kept = more.pages_kept ∙ kept.pages_kept }, c.step.auto.arg4 ∙ c.loop-block.invariant.1)
