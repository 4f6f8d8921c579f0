use Rattle.drive.proofs.Bridge.{shown_written, shown_torn, shown_blank_lem}
use Rattle.drive.proofs.pages_shown.Goals as goal

pub returns : goal.returns
returns c = (shown_written, (shown_torn, shown_blank_lem))
