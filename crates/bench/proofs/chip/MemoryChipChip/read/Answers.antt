use Rattle.std.proofs.Common.{arith}
use Rattle.std.proofs.lemmas.Float.{T_from_true}
use Rattle.bench.specs.Store.{held}
use Rattle.bench.proofs.Sheet.{read_goes, read_shows, shows}
use Rattle.bench.proofs.chip.MemoryChipChip.read.Goals as goal

pub returns-then-not-self : goal.returns-then-not-self
returns-then-not-self c = read_goes c.read_dark.ensures

pub returns-then-goes : goal.returns-then-goes
returns-then-goes c = read_goes c.read_dark-then-goes.ensures

pub returns : goal.returns
returns c =
    let page = ((held c.args.self.now.store).block c.args.block).page c.args.page in
    let seen = shows page c.fetch-state.result c.fetch-state.new.into c.show.new.page c.turn.new.page c.fetch-state.ensures.is c.fetch-state.ensures.shows c.show.ensures.shown
    c.show.ensures.bytes (omega arith) c.turn.ensures.bytes c.turn.ensures.near in
    read_shows (T_from_true c.args.self.now.store.on c.if-not-self.false) seen c.count.ensures
