use Rattle.bench.proofs.Sheet.{program_gone}
use Rattle.bench.proofs.chip.MemoryChipChip.program.Goals as goal

pub returns-then-not-self : goal.returns-then-not-self
returns-then-not-self c = program_gone c.if-not-self.true c.go_dark.ensures
