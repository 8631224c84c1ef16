-- What taking a tree, adding a file and writing into one come to.
use Rattle.std.specs.Prelude.{◌≡◌, ◌⊎◌, ℕ, ◌+◌, ◌≤◌, List, Option, Some, None}
use Rattle.std.specs.FinMap as map
use Rattle.f2_format.specs.Geometry.{ImageGeometry, node_third}
use Rattle.f2_model.specs.Tree.{Rows, ROOT}
use Rattle.f2_model.specs.Call.{effect, refusal, space_refusal}
use Rattle.f2_model.specs.declared.replies.Reply.{Reply}
use Rattle.f2_model.specs.declared.requests.Piece.{Piece}
use Rattle.f2_model.specs.declared.requests.Request.{Request}
use Rattle.f2_model.specs.declared.requests.Request.TheVariants.{Create, Write}
use Rattle.f2_flat.specs.Flat.{IsFlat, limits_of}

-- a tree was taken as it is, which is flat, or it was refused, and isn't
abbrev pub TakesFlat : ImageGeometry → Rows → Option Rows → Type 0
TakesFlat geom tree (Some taken) = (taken ≡ tree) × IsFlat geom tree
TakesFlat geom tree None = ¬ (IsFlat geom tree)

-- the tree after a call that makes a file under an ino
abbrev pub grown : Rows → List (List ℕ) → ℕ → Rows
grown tree path ino = effect tree (Create path) ino

-- why a call is refused: by its path, the tree and its numbers, or for want of space; no number is given to a row, so the one
-- past the last stands for it
abbrev pub IsRefused : ImageGeometry → Rows → Request → Reply → Type 0
IsRefused geom tree request refused =
    (refusal (limits_of geom) tree request ≡ Some refused)
    ⊎ ((refusal (limits_of geom) tree request ≡ None) × (space_refusal (limits_of geom) (effect tree request (limits_of geom).nids) ≡ Some refused))

-- a file was added under this number, the one after the tree's last
pub record IsAdded (geom : ImageGeometry) (old new : Rows) (path : List (List ℕ)) (ino : ℕ) : Type 0 where
  pub none : refusal (limits_of geom) old (Create path) ≡ None
  pub space : space_refusal (limits_of geom) (grown old path (limits_of geom).nids) ≡ None
  pub next : ino ≡ map.len old + ROOT
  pub fits : map.len old + 1 ≤ node_third geom
  pub tree : new ≡ grown old path ino

-- pieces were put into a file
pub record IsWritten (geom : ImageGeometry) (old new : Rows) (path : List (List ℕ)) (pieces : List Piece) : Type 0 where
  pub none : refusal (limits_of geom) old (Write path pieces) ≡ None
  pub space : space_refusal (limits_of geom) (effect old (Write path pieces) (limits_of geom).nids) ≡ None
  pub tree : new ≡ effect old (Write path pieces) (limits_of geom).nids
