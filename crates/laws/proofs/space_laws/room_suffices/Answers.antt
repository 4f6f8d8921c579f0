use Rattle.laws.proofs.LogSpace.{room_suffices}
use Rattle.laws.proofs.space_laws.room_suffices.Goals as goal

pub returns : goal.returns
returns c = room_suffices
