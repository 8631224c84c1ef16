use Rattle.std.proofs.Common.{◌≡◌, ◌*◌, ◌^◌, ◌≤◌, drop}
use Rattle.f2_image.specs.Images.{Image}
use Rattle.f2_model.specs.Count.{nodes_of_tree, data_of_tree}
use Rattle.f2_model.specs.Tree.{Rows}
use Rattle.f2_found.specs.Found.{IsFound}
use Rattle.f2_tree_size.proofs.Parts.{more_of, nodes_at, data_at}
use Rattle.f2_tree_size.proofs.sizes.size_of_tree.Given as goal

-- the rows that are left make the counts whole
abbrev pub invariant-loop-ino : goal.invariant-loop-ino
invariant-loop-ino l = record {
  nodes : (image : Image) (tree : Rows) → IsFound image tree l.found → more_of (nodes_at tree) l.nodes (drop l.ino-index l.ino-items) ≡ nodes_of_tree tree;
  blocks : (image : Image) (tree : Rows) → IsFound image tree l.found → more_of (data_at tree) l.blocks (drop l.ino-index l.ino-items) ≡ data_of_tree tree;
  nodes_fit : l.nodes ≤ l.ino-index * 2 ^ 64;
  blocks_fit : l.blocks ≤ l.ino-index * 2 ^ 64;
}
