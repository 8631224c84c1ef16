use Rattle.f2_packed_laws.proofs.Room.{have_room}
use Rattle.f2_packed_laws.proofs.packed.packed_layouts_have_room.Goals as goal

pub returns : goal.returns
returns c = have_room
