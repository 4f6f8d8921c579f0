use Rattle.std.proofs.Common.{rules}
use Rattle.line_buffer.proofs.Buffered.{same_reading}
use Rattle.line_buffer.proofs.LineBuffer.command.Goals as goal

pub returns : goal.returns
returns c l e = same_reading c.args.self.now l _ e (search rules)
