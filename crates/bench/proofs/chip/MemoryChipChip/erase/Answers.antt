use Rattle.bench.proofs.Sheet.{erase_gone}
use Rattle.bench.proofs.chip.MemoryChipChip.erase.Goals as goal

pub returns-then-not-self : goal.returns-then-not-self
returns-then-not-self c = erase_gone c.if-not-self.true c.go_dark.ensures
