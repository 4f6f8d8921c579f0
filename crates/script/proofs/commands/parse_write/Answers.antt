use Rattle.script.proofs.Texts.{write_never, write_no_byte}
use Rattle.script.proofs.commands.parse_write.Goals as goal

pub returns-in_err-read : goal.returns-in_err-read
returns-in_err-read c = rw c.from_residual.ensures (write_never _ c.in_err-read.ensures)

pub returns-in_err-fill : goal.returns-in_err-fill
returns-in_err-fill c =
    rw c.from_residual-in_err-fill.ensures (write_no_byte _ _ _ c.in_ok-read.ensures c.in_err-fill.ensures)
