use Rattle.std.proofs.Common.{ap, ◌∙◌, arith}
use Rattle.f2_tree_size.proofs.Parts.{more_of, nodes_at, data_at, all_nodes, all_data}
use Rattle.f2_tree_size.proofs.sizes.size_of_tree.Goals as goal

pub loop-ino-init : goal.loop-ino-init
loop-ino-init c = record {
  nodes = λ image tree is. ap (more_of (nodes_at tree) 0) (c.deref-ino-items.ensures.value ∙ c.in_ok-inos.ensures) ∙ all_nodes image tree c.args.found.now is;
  blocks = λ image tree is. ap (more_of (data_at tree) 0) (c.deref-ino-items.ensures.value ∙ c.in_ok-inos.ensures) ∙ all_data image tree c.args.found.now is;
  nodes_fit = omega arith;
  blocks_fit = omega arith;
}
