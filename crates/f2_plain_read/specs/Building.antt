-- A tree as it is built from the files of an image, one ino after another.
use Rattle.std.specs.Prelude.{◌≡◌, ◌≢◌, ℕ, ◌<◌, ◌==◌, nat_lt, if◌then◌else◌, List, [], length, slice_index, Option, Some, None, option_map, All}
use Rattle.std.specs.List.{flat_map}
use Rattle.std.specs.Ordering.{nat_cmp}
use Rattle.std.specs.FinMap as map
use Rattle.f2_format.specs.Dentry.{dentries_of, dentry_fault}
use Rattle.f2_model.specs.Content.{PageMap}
use Rattle.f2_model.specs.Tree.{Rows, ROOT}
use Rattle.f2_model.specs.declared.rows.Row.{Row}
use Rattle.f2_model.specs.declared.rows.Kind.{Kind}
use Rattle.f2_model.specs.declared.rows.Kind.TheVariants.{Regular, Directory}
use Rattle.f2_laid.specs.Laid.{PlaceMap, at_of}
use Rattle.f2_plain_read.specs.Bindings.{NameMap, with_names, AreFresh}
use Rattle.f2_plain_read.specs.Files.{AreBlocks}
use Rattle.f2_plain_read.specs.declared.built.Built.{Built}
use Rattle.f2_plain_read.specs.declared.names.Bound.{Bound}

-- a row without its name
abbrev pub bare : Row → Row
bare row = record { ino = row.ino; kind = row.kind; parent = 0; name = []; size = row.size; pages = row.pages }

-- the name of a row; the root has none
abbrev pub bound_of : Row → Option Bound
bound_of row = if row.ino == ROOT then None else Some (record { parent = row.parent; name = row.name })

-- the name of a row whose directory is below a limit
abbrev pub bound_below : ℕ → Option Row → Option Bound
bound_below limit None = None
bound_below limit (Some row) = if nat_lt row.parent limit then bound_of row else None

-- what a map has at inos below a limit
abbrev pub up_to : {X : Type 0} → ℕ → map.FinMap nat_cmp X → ℕ → Option X
up_to limit whole ino = if nat_lt ino limit then map.get whole ino else None

-- what was built of the files below a limit, of a tree with its places
pub record IsBuilt (tree : Rows) (stood : PlaceMap) (limit : ℕ) (built : Built) : Type 0 where
  pub rows : (ino : ℕ) → map.get built.rows ino ≡ option_map bare (up_to limit tree ino)
  pub names : (ino : ℕ) → map.get built.names ino ≡ bound_below limit (map.get tree ino)
  pub places : (ino : ℕ) → map.get built.places ino ≡ up_to limit stood ino

-- each place is that of an ino below a limit
abbrev pub AreBelow : ℕ → PlaceMap → Type 0
AreBelow limit places = (ino : ℕ) → map.get places ino ≢ None → ino < limit

-- a table has the addresses of files
abbrev pub IsTableFor : List ℕ → PlaceMap → Type 0
IsTableFor table places = (ino : ℕ) → ino < length table → slice_index table ino ≡ at_of (map.get places ino)

-- the content of a file was taken: a regular file keeps its pages, those of a directory bind its names
abbrev pub TakesContent : Kind → ℕ → PageMap → NameMap → NameMap → PageMap → Type 0
TakesContent Regular ino pages old new left = (left ≡ pages) × (new ≡ old)
TakesContent Directory ino pages old new left = (left ≡ map.empty) × ((blocks : List (List ℕ)) → AreBlocks pages blocks → new ≡ with_names ino old (flat_map dentries_of blocks))

-- the content of a file that can be taken
abbrev pub IsTakable : Kind → ℕ → PageMap → NameMap → Type 0
IsTakable Regular ino pages old = Unit {0}
IsTakable Directory ino pages old = (blocks : List (List ℕ)) × AreBlocks pages blocks × All (λ block. dentry_fault block ≡ None) blocks × AreFresh ino old (flat_map dentries_of blocks)

-- a row is a named one, but for its name
pub record IsNamedBy (whole row : Row) (bound : Option Bound) : Type 0 where
  pub bare_row : row ≡ bare whole
  pub bound_is : bound ≡ bound_of whole
  pub root_parent : whole.ino ≡ ROOT → whole.parent ≡ ROOT
  pub root_name : whole.ino ≡ ROOT → whole.name ≡ []
