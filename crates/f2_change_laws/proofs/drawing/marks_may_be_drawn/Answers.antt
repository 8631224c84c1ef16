use Rattle.f2_change_laws.proofs.Draws.{marks_may_be_drawn}
use Rattle.f2_change_laws.proofs.drawing.marks_may_be_drawn.Goals as goal

pub returns : goal.returns
returns c = marks_may_be_drawn
