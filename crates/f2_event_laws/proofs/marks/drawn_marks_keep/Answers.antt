use Rattle.f2_event_laws.proofs.DrawnMarks.{drawn_marks}
use Rattle.f2_event_laws.proofs.marks.drawn_marks_keep.Goals as goal

pub returns : goal.returns
returns c = drawn_marks
