use Rattle.std.proofs.Common.{◌∙◌, arith}
use Rattle.words.proofs.Words.{little_bytes}
use Rattle.words.proofs.U16Unsigned2.to_le_bytes.Goals as goal

pub returns : goal.returns
returns c = c.to_le_bytes.ensures ∙ little_bytes 1 c.args.self (omega arith)
