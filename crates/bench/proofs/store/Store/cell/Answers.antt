use Rattle.bench.proofs.Space.{inside}
use Rattle.bench.proofs.store.Store.cell.Goals as goal

pub bounds-self-block : goal.bounds-self-block
bounds-self-block c = (inside _ _ _ _ _ _ c.requires).cell
