-- Trees of files in the root alone.
use Rattle.std.specs.Prelude.{◌≡◌, ◌≢◌, ℕ, ◌+◌, ◌<◌, ◌≤◌, Some}
use Rattle.std.specs.FinMap as map
use Rattle.f2_format.specs.Geometry.{ImageGeometry, node_third, data_third, nid_limit}
use Rattle.f2_model.specs.Count.{data_of_tree}
use Rattle.f2_model.specs.Tree.{Rows, ROOT, IsGoodTree}
use Rattle.f2_model.specs.declared.bounds.Limits.{Limits}
use Rattle.f2_model.specs.declared.rows.Row.{Row}
use Rattle.f2_model.specs.declared.rows.Kind.TheVariants.{Regular}

-- the most bytes of a file: those of the pages that an inode has addresses for
abbrev pub FILE_SIZE : ℕ
FILE_SIZE = 3780608

-- what an image of these sizes grants
abbrev pub limits_of : ImageGeometry → Limits
limits_of geom = record { nodes = node_third geom; data_blocks = data_third geom; nids = nid_limit geom; size = FILE_SIZE }

-- a row is that of a file in the root
abbrev pub IsRootFile : Row → Type 0
IsRootFile row = (row.kind ≡ Regular) × (row.parent ≡ ROOT)

-- a tree of files in the root alone, made in the order of their inos, for which an image has room
pub record IsFlat (geom : ImageGeometry) (tree : Rows) : Type 0 where
  pub good : IsGoodTree FILE_SIZE tree
  pub fits : map.len tree ≤ node_third geom
  pub room : data_of_tree tree ≤ data_third geom
  pub dense : (ino : ℕ) (row : Row) → map.get tree ino ≡ Some row → (ROOT ≤ ino) × (ino < map.len tree + ROOT)
  pub files : (ino : ℕ) (row : Row) → map.get tree ino ≡ Some row → ino ≢ ROOT → IsRootFile row
