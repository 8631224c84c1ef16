use Rattle.f2_room_laws.proofs.staying.rows_stay_in_fsync.Goals as goal
use Rattle.f2_room_laws.proofs.Stays.{rows_stay}

pub returns : goal.returns
returns c = rows_stay
