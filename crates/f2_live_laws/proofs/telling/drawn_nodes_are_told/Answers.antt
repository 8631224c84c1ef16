use Rattle.f2_live_laws.proofs.Told.{drawn_nodes_are_told}
use Rattle.f2_live_laws.proofs.telling.drawn_nodes_are_told.Goals as goal

pub returns : goal.returns
returns c = drawn_nodes_are_told
