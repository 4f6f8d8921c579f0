use Rattle.bench_tests.proofs.Sheet.{program_kept, program_dark, kept_trans}
use Rattle.bench_tests.proofs.write.Goals as goal

pub revive-requires : goal.revive-requires
revive-requires g c = program_dark c.program-answer.ensures

pub returns : goal.returns
returns g c = kept_trans (program_kept c.program-answer.ensures) c.revive.ensures
