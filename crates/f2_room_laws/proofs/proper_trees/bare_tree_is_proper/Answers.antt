use Rattle.f2_room_laws.proofs.proper_trees.bare_tree_is_proper.Goals as goal
use Rattle.f2_room_laws.proofs.BareTree.{bare_proper}

pub returns-clause-bare : goal.returns-clause-bare
returns-clause-bare c = bare_proper
