-- When a row may join others, and what is wrong with one that may not.
use Rattle.std.specs.Prelude.{◌≡◌, ◌≢◌, ℕ, ◌<◌, ◌≤◌, Bool, true, false, not, ◌&&◌, ◌||◌, nat_le, nat_lt, IsTrue, [], ◌∷◌, Option, Some, None, is_some, if◌then◌else◌}
use Rattle.std.specs.Bool.{then_some}
use Rattle.std.specs.List.{list_any}
use Rattle.std.specs.FinMap as map
use Rattle.f2_format.specs.Offsets.{page_limit}
use Rattle.f2_model.specs.Lists.{first_some}
use Rattle.f2_model.specs.Names.{is_good_name}
use Rattle.f2_model.specs.Tree.{ROOT, is_directory}
use Rattle.f2_model.specs.declared.rows.Kind.TheVariants.{Directory}
use Rattle.f2_files.specs.Cuts.{Addressed}
use Rattle.f2_files.specs.Led.{Dirs, bound_in, is_directory_there}
use Rattle.f2_files.specs.Shape.{Shapes}
use Rattle.f2_files.specs.declared.joins.RowFault.{RowFault}
use Rattle.f2_files.specs.declared.joins.RowFault.TheVariants.{BadIno, NoDirectory, BadName, NameTaken, BadSize, BadPage, Memory}
use Rattle.f2_files.specs.declared.shapes.Shape.{Shape}

-- whether a number isn't above the root's, or a row has it
abbrev pub is_bad_ino : Shapes → ℕ → Bool
is_bad_ino shapes ino = nat_le ino ROOT || is_some (map.get shapes ino)

-- whether a row is longer than a size, or a directory with one
abbrev pub is_bad_size : ℕ → Shape → Bool
is_bad_size most row = nat_lt most row.size || (is_directory row.kind && nat_lt 0 row.size)

-- whether a page is past the last one that a file may have
abbrev pub has_far_page : Addressed → Bool
has_far_page pages = list_any (λ page. not (nat_lt page page_limit)) (map.keys pages)

-- another row than the root stands under a row's name in its directory
pub record Namesake (shapes : Shapes) (row : Shape) : Type 0 where
  pub ino : ℕ
  pub shape : Shape
  pub there : map.get shapes ino ≡ Some shape
  pub other : ino ≢ ROOT
  pub parent : shape.parent ≡ row.parent
  pub name : shape.name ≡ row.name

-- a row may join others, where a file has at most so many bytes
pub record MayJoin (most : ℕ) (shapes : Shapes) (row : Shape) : Type 0 where
  pub above : ROOT < row.ino
  pub free : map.get shapes row.ino ≡ None
  pub directory : is_directory_there (map.get shapes row.parent) ≡ true
  pub name : IsTrue (is_good_name row.name)
  pub apart : Namesake shapes row → ⊥
  pub size : row.size ≤ most
  pub empty : row.kind ≡ Directory → row.size ≡ 0
  pub near : has_far_page row.pages ≡ false

-- a row has a fault
abbrev pub IsWrong : ℕ → Shapes → Shape → RowFault → Type 0
IsWrong most shapes row BadIno = IsTrue (is_bad_ino shapes row.ino)
IsWrong most shapes row NoDirectory = is_directory_there (map.get shapes row.parent) ≡ false
IsWrong most shapes row BadName = is_good_name row.name ≡ false
IsWrong most shapes row NameTaken = Namesake shapes row
IsWrong most shapes row BadSize = IsTrue (is_bad_size most row)
IsWrong most shapes row BadPage = IsTrue (has_far_page row.pages)
IsWrong most shapes row Memory = Unit {0}

-- the first fault of a row beside rows and the names of directories
abbrev pub row_fault : ℕ → Shapes → Dirs → Shape → Option RowFault
row_fault most shapes dirs row = first_some (
    then_some (is_bad_ino shapes row.ino) BadIno
    ∷ then_some (not (map.contains_key dirs row.parent)) NoDirectory
    ∷ then_some (not (is_good_name row.name)) BadName
    ∷ then_some (is_some (bound_in dirs row.parent row.name)) NameTaken
    ∷ then_some (is_bad_size most row) BadSize
    ∷ then_some (has_far_page row.pages) BadPage
    ∷ [])

-- directories, with one more that has no names where a row is one
abbrev pub with_own_names : Dirs → Shape → Dirs
with_own_names dirs row = if is_directory row.kind then map.insert dirs row.ino map.empty else dirs
