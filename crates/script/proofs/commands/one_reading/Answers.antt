use Rattle.script.proofs.Texts.{one_reading, reads_back}
use Rattle.script.proofs.commands.one_reading.Goals as goal

pub returns : goal.returns
returns c = (one_reading, reads_back)
