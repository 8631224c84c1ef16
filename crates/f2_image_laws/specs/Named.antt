-- The names of a base stand in dentries of its directories, and these have no other names.
use Rattle.std.specs.Prelude.{◌≡◌, ℕ, List, Contains, Some}
use Rattle.std.specs.FinMap as map
use Rattle.f2_format.specs.Dentry.{Dentry}
use Rattle.f2_model.specs.Tree.{Rows, names_of}
use Rattle.f2_model.specs.declared.rows.Row.{Row}
use Rattle.f2_image.specs.Images.{Image}
use Rattle.f2_image.specs.Packs.{Checkpoint}
use Rattle.f2_image.specs.Bases.{HasDentry, IsReached, StandsAs, IsNameOf, IsBase}

-- each name of a row stands in a dentry of its directory, which is in the base
abbrev pub RowsHaveDentries : Type 0
RowsHaveDentries =
    (image : Image) (ckpt : Checkpoint) (tree : Rows) → IsBase image ckpt tree → (ino : ℕ) (row : Row) → map.get tree ino ≡ Some row → (directory : ℕ) (name : List ℕ) → Contains (names_of row) (directory, name)
    → IsNameOf image ckpt ino directory name

-- each dentry of a directory of the base is the name of a row in it
abbrev pub DentriesAreNames : Type 0
DentriesAreNames =
    (image : Image) (ckpt : Checkpoint) (tree : Rows) → IsBase image ckpt tree → (directory : ℕ) (dentry : Dentry) → IsReached image ckpt directory → HasDentry image ckpt directory dentry
    → StandsAs tree dentry.ino directory dentry.name
