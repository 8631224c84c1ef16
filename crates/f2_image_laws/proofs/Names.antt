-- The names of a base stand in dentries of its directories.
use Rattle.std.proofs.Common.{◌≡◌, ◌≢◌, ℕ}
use Rattle.std.specs.Prelude.{Some}
use Rattle.std.specs.FinMap as map
use Rattle.f2_model.specs.Tree.{Rows, ROOT}
use Rattle.f2_model.specs.declared.rows.Row.{Row}
use Rattle.f2_image.specs.Images.{Image}
use Rattle.f2_image.specs.Packs.{Checkpoint}
use Rattle.f2_image.specs.Bases.{IsNameOf, IsBase}
use Rattle.f2_image.proofs.OneName.{name_of_row}

-- the name that a row carries
module _ (image : Image) (ckpt : Checkpoint) (tree : Rows) (base : IsBase image ckpt tree) where
  pub row_has_name : (ino : ℕ) (row : Row) → map.get tree ino ≡ Some row → ino ≢ ROOT → IsNameOf image ckpt ino row.parent row.name
  row_has_name = name_of_row image ckpt tree base
