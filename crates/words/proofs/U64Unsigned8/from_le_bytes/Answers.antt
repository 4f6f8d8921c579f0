use Rattle.std.proofs.Common.{◌∙◌, rules}
use Rattle.words.proofs.Words.{value_sum}
use Rattle.words.proofs.U64Unsigned8.from_le_bytes.Goals as goal

pub returns : goal.returns
returns c = c.from_le_bytes.ensures ∙ value_sum 7 c.args.bytes (search rules)
