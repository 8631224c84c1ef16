-- One marked row more over a base and the marks before it.
use Rattle.std.specs.Prelude.{◌≡◌, ◌≢◌, ℕ, ◌≤◌, IsTrue, List, [], ◌∷◌, ◌++◌, map as map_list, Some}
use Rattle.std.specs.FinMap as map
use Rattle.f2_model.specs.Names.{is_good_name}
use Rattle.f2_model.specs.Tree.{Rows, ROOT, IsGoodTree, HasGoodPages}
use Rattle.f2_model.specs.State.{Mark, rolled}
use Rattle.f2_model.specs.declared.bounds.Limits.{Limits}
use Rattle.f2_model.specs.declared.rows.Row.{Row}
use Rattle.f2_model.specs.declared.rows.Kind.TheVariants.{Regular, Directory}
use Rattle.f2_held.specs.Recovered.{IsOneOf, rows_of, most_of}
use Rattle.f2_room_laws.specs.ProperTrees.{IsNumber, IsProperTree}

-- a file's row may be put into a tree: where its ino has a row it is a file's, it stands in a directory of the tree under a good name that no other row has there, and its pages are good
pub record MayComeIn (most_size : ℕ) (tree : Rows) (row : Row) : Type 0 where
  pub regular : row.kind ≡ Regular
  pub not_root : row.ino ≢ ROOT
  pub file : (old : Row) → map.get tree row.ino ≡ Some old → old.kind ≡ Regular
  pub up : (parent : Row) × (map.get tree row.parent ≡ Some parent) × (parent.kind ≡ Directory)
  pub name : IsTrue (is_good_name row.name)
  pub free : (ino : ℕ) (other : Row) → map.get tree ino ≡ Some other → ino ≢ ROOT → other.parent ≡ row.parent → other.name ≡ row.name → ino ≡ row.ino
  pub pages : HasGoodPages most_size row

-- a good tree that such a row is put into is good
abbrev pub RowsComeInWell : Type 0
RowsComeInWell = (most_size : ℕ) (tree : Rows) (row : Row) → IsGoodTree most_size tree → MayComeIn most_size tree row → IsGoodTree most_size (map.insert tree row.ino row)

-- some rows have those of a base and of marks among them, and take no more than is granted
pub record RowsHaveRoom (limits : Limits) (base : Rows) (marks : List Mark) (rows : List Row) : Type 0 where
  pub nodes : (most_of base rows).nodes ≤ limits.nodes
  pub data_blocks : (most_of base rows).pages ≤ limits.data_blocks
  pub found : (row : Row) → IsOneOf row (rows_of base marks) → IsOneOf row rows

-- marks of files rolled over a base are proper with one mark more, where its row may come in and there is room for all the rows
abbrev pub MarksComeInWell : Type 0
MarksComeInWell =
    (limits : Limits) (base : Rows) (marks : List Mark) (mark : Mark) (rows : List Row) →
    IsProperTree limits (rolled base marks) →
    ((row : Row) → IsOneOf row (map_list (λ mark. mark.row) marks) → row.kind ≡ Regular) →
    mark.row.ino ≡ mark.ino →
    IsNumber limits mark.ino →
    MayComeIn limits.size (rolled base marks) mark.row →
    RowsHaveRoom limits base (marks ++ mark ∷ []) rows →
    IsProperTree limits (rolled base (marks ++ mark ∷ []))
