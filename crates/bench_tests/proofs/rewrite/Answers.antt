use Rattle.bench_tests.proofs.Sheet.{erase_kept, erase_dark, rewritable, allowed_kept, kept_trans}
use Rattle.std.proofs.Common.{sym, ◌∙◌}
use Rattle.bench_tests.proofs.rewrite.Goals as goal

pub write-requires : goal.write-requires
write-requires g c =
    rewritable (g.C.Chip.nand c.args.chip.now) c.args.bytes.now c.allow.ensures c.requires.within.0 (sym c.is_bad.ensures ∙ c.if-is_bad.false) c.requires.within.1 c.requires.whole c.in-Fine.ensures

pub revive-requires : goal.revive-requires
revive-requires g c = erase_dark c.erase.ensures

pub returns-in-Fine : goal.returns-in-Fine
returns-in-Fine g c = kept_trans (allowed_kept 2 c.allow.ensures) (kept_trans (erase_kept c.erase.ensures) c.write.ensures)

pub returns-in_default : goal.returns-in_default
returns-in_default g c = kept_trans (allowed_kept 2 c.allow.ensures) (kept_trans (erase_kept c.erase.ensures) c.revive.ensures)
