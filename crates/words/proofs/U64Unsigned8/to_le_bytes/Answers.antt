use Rattle.std.proofs.Common.{◌∙◌, arith}
use Rattle.words.proofs.Words.{little_bytes}
use Rattle.words.proofs.U64Unsigned8.to_le_bytes.Goals as goal

pub returns : goal.returns
returns c = c.to_le_bytes.ensures ∙ little_bytes 7 c.args.self (omega arith)
