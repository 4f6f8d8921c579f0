use Rattle.std.proofs.Common.{rules, ap, ◌∙◌}
use Rattle.words.specs.Words.{value, value_at}
use Rattle.words.proofs.Words.{part}
use Rattle.words.proofs.read.Goals as goal

pub returns : goal.returns
unfolding value_at
returns g c = c.from_le_bytes.ensures ∙ ap value (part c.args.at g.row.N c.args.s.now c.unwrap.result (search rules))
