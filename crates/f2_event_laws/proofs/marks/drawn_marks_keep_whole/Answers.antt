use Rattle.f2_event_laws.proofs.WholeMarks.{drawn_marks_whole}
use Rattle.f2_event_laws.proofs.marks.drawn_marks_keep_whole.Goals as goal

pub returns : goal.returns
returns c = drawn_marks_whole
