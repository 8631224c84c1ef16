-- What the row of an ino takes of a tree.
use Rattle.std.specs.Prelude.{◌≡◌, ℕ, List, Option, Some, None}
use Rattle.std.specs.FinMap as map
use Rattle.f2_model.specs.Count.{nodes_of_row, data_of_row}
use Rattle.f2_model.specs.Fallback.{Both}
use Rattle.f2_model.specs.Tree.{Rows}
use Rattle.f2_model.specs.declared.rows.Row.{Row}

-- the nodes and the data blocks of a row among rows, and none where there is no row
abbrev pub nodes_of_part : List Row → Option Row → ℕ
nodes_of_part rows None = 0
nodes_of_part rows (Some row) = nodes_of_row rows row

abbrev pub data_of_part : List Row → Option Row → ℕ
data_of_part rows None = 0
data_of_part rows (Some row) = data_of_row rows row

-- what the row of an ino takes of a tree, and nothing where there is none
pub record IsPartOf (tree : Rows) (ino : ℕ) (size : Both) : Type 0 where
  pub nodes : size.nodes ≡ nodes_of_part (map.values tree) (map.get tree ino)
  pub blocks : size.pages ≡ data_of_part (map.values tree) (map.get tree ino)
