-- The parts of a state as the abstract machine has them.
use Rattle.f2_model.specs.State as machine
use Rattle.f2_reference_state.specs.declared.marks.Mark.{Mark}

abbrev pub mark_of : Mark → machine.Mark
mark_of mark = record { ino = mark.ino; row = mark.row }
