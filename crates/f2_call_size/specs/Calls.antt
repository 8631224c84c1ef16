-- What is told of the size of a call.
use Rattle.std.specs.Prelude.{◌≡◌, ℕ, true, List, Option, Some, None, Ok, IsOk}
use Rattle.std.specs.FinMap as map
use Rattle.f2_files.specs.Known.{Known}
use Rattle.f2_files.specs.Packed.{names_after}
use Rattle.f2_files.specs.Shape.{IsShapeOf, IsShape}
use Rattle.f2_files.specs.declared.shapes.Shape.{Shape}
use Rattle.f2_format.specs.Packing.{blocks_of_names}
use Rattle.f2_held.specs.Recovered.{size_of_file}
use Rattle.f2_held.specs.Sums.{of_blocks}
use Rattle.f2_model.specs.Call.{effect, refusal}
use Rattle.f2_model.specs.Count.{dentry_blocks}
use Rattle.f2_model.specs.Fallback.{Both}
use Rattle.f2_model.specs.Rising.{rising}
use Rattle.f2_model.specs.Step.{adds_row}
use Rattle.f2_model.specs.Tree.{IsGoodTree, Rows, names_in, walk}
use Rattle.f2_model.specs.declared.bounds.Limits.{Limits}
use Rattle.f2_model.specs.declared.requests.Request.{Request}
use Rattle.f2_model.specs.declared.rows.Kind.{Kind}
use Rattle.f2_model.specs.declared.rows.Kind.TheVariants.{Regular, Directory}
use Rattle.f2_model.specs.declared.rows.Row.{Row}
use Rattle.f2_call_size.specs.Sizes.{IsDifference, IsSizeOf}
use Rattle.f2_call_size.specs.declared.sizes.CallSize.{CallSize}

-- whichever good tree was known before a call that it doesn't refuse, this is from it to the tree after the call; a new row has an ino
-- that no row has
abbrev pub Tells : Known → Request → CallSize → Type 0
Tells known request size =
    (limits : Limits) (most : ℕ) (tree : Rows) (ino : ℕ) →
    IsGoodTree most tree →
    IsShapeOf known.shapes tree →
    refusal limits tree request ≡ None →
    (adds_row request ≡ true → map.get tree ino ≡ None) →
    IsSizeOf tree (effect tree request ino) size

-- whichever good tree was known, this is how one of its directories grows and shrinks when a name leaves it and another one comes
abbrev pub ChangesNames : Known → ℕ → Option (List ℕ) → Option (List ℕ) → CallSize → Type 0
ChangesNames known directory gone come size =
    (most : ℕ) (tree : Rows) (row : Row) →
    IsGoodTree most tree →
    IsShapeOf known.shapes tree →
    map.get tree directory ≡ Some row →
    row.kind ≡ Directory →
    IsDifference (of_blocks (dentry_blocks (map.values tree) directory)) (of_blocks (blocks_of_names (rising (names_after gone come (names_in (map.values tree) directory))))) size

-- the shape of the row at the end of a path; none is told only where the path doesn't lead to a row
abbrev pub IsShapeAt : Rows → List (List ℕ) → Option Shape → Type 0
IsShapeAt tree path (Some shape) = (row : Row) × (walk tree path ≡ Ok row) × IsShape shape row
IsShapeAt tree path None = IsOk (walk tree path) → ⊥

-- the same of its ino
abbrev pub IsInoAt : Rows → List (List ℕ) → Option ℕ → Type 0
IsInoAt tree path (Some ino) = (row : Row) × (walk tree path ≡ Ok row) × (row.ino ≡ ino)
IsInoAt tree path None = IsOk (walk tree path) → ⊥

-- what a row of a kind takes alone: a file with its pages, a directory without a name
abbrev pub size_of_kind : Kind → Row → Both
size_of_kind Regular row = size_of_file row
size_of_kind Directory row = of_blocks 0

abbrev pub size_alone : Row → Both
size_alone row = size_of_kind row.kind row
