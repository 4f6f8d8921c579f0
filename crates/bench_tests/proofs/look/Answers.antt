use Rattle.bench_tests.proofs.Sheet.{read_kept, read_dark, allowed_kept, kept_trans}
use Rattle.bench_tests.proofs.look.Goals as goal

pub revive-requires : goal.revive-requires
revive-requires g c = read_dark c.read-answer.ensures

pub returns : goal.returns
returns g c = kept_trans (allowed_kept 1 c.allow.ensures) (kept_trans (read_kept c.read-answer.ensures) c.revive.ensures)
