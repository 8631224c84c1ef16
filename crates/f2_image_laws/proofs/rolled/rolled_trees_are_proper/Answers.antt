use Rattle.f2_image_laws.proofs.RolledTree.{rolled_tree_proper}
use Rattle.f2_image_laws.proofs.rolled.rolled_trees_are_proper.Goals as goal

pub returns : goal.returns
returns c = rolled_tree_proper
