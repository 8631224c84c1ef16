use Rattle.f2_change_laws.proofs.Draws.{nodes_may_be_drawn}
use Rattle.f2_change_laws.proofs.drawing.nodes_may_be_drawn.Goals as goal

pub returns : goal.returns
returns c = nodes_may_be_drawn
