use Rattle.std.proofs.Common.{rules}
use Rattle.std.proofs.lemmas.List.Edits.{map_over_more}
use Rattle.bench.specs.Held.{worn_state}
use Rattle.bench.proofs.memory.wear.Goals as goal

pub loop-state-preserved : goal.loop-state-preserved
loop-state-preserved c = search (rules, map_over_more (worn_state c.args.answer))
