-- The nodes and the data blocks of a tree, and whether they fit its image.
use Rattle.std.specs.Prelude.{◌≡◌, ℕ, ◌<◌, ◌≤◌, ⊤}
use Rattle.std.specs.FinMap as map
use Rattle.f2_dir.specs.Entries.{Entries}
use Rattle.f2_format.specs.Geometry.{ImageGeometry, node_third, data_third}
use Rattle.f2_format.specs.Packing.{blocks_of_names}
use Rattle.f2_model.specs.Tree.{Rows}
use Rattle.f2_model.specs.Count.{nodes_of_tree, data_of_tree}
use Rattle.f2_recover.specs.declared.faults.BadImage.TheVariants.{TooFull}
use Rattle.f2_recover.specs.declared.faults.MountFault.{MountFault}
use Rattle.f2_recover.specs.declared.faults.MountFault.TheVariants.{Bad, Read, Memory}
use Rattle.f2_tree_size.specs.declared.sizes.TreeSize.{TreeSize}

-- what a tree takes
pub record IsSizeOf (tree : Rows) (size : TreeSize) : Type 0 where
  pub nodes : size.nodes ≡ nodes_of_tree tree
  pub blocks : size.blocks ≡ data_of_tree tree

-- the blocks that the names of a directory fill
abbrev pub blocks_of_entries : Entries → ℕ
blocks_of_entries names = blocks_of_names (map.keys names)

-- a tree fits an image of these sizes: it takes no more than a third of each zone
pub record HasRoom (geom : ImageGeometry) (tree : Rows) : Type 0 where
  pub nodes : nodes_of_tree tree ≤ node_third geom
  pub blocks : data_of_tree tree ≤ data_third geom

-- a tree takes more than this
pub data IsOver (geom : ImageGeometry) (tree : Rows) (limit : ℕ) : Type 0 where
  nodes : limit ≡ node_third geom → limit < nodes_of_tree tree → IsOver geom tree limit
  blocks : limit ≡ data_third geom → limit < data_of_tree tree → IsOver geom tree limit

-- it is told that a tree takes too much, or memory was refused
abbrev pub IsRoomFault : ImageGeometry → Rows → MountFault → Type 0
IsRoomFault geom tree (Bad (TooFull limit)) = IsOver geom tree limit
IsRoomFault geom tree (Bad bad) = ⊥
IsRoomFault geom tree Read = ⊥
IsRoomFault geom tree Memory = ⊤
