-- The names in each directory of a tree, with what they are bound to.
use Rattle.std.specs.Prelude.{◌≡◌, ◌≢◌, ℕ, true, List, map as map_list, Contains, Some}
use Rattle.std.specs.Borrow.{Bor}
use Rattle.std.specs.Coded.{Coded, coded_ℕ}
use Rattle.std.specs.FinMap as map
use Rattle.std.specs.Option.{unwrap_or}
use Rattle.std.specs.Ordering.{nat_cmp}
use Rattle.f2_dentry_block.specs.declared.dents.Dent.{Dent}
use Rattle.f2_dir.specs.Entries.{Entries, entries_code, dents_of}
use Rattle.f2_model.specs.Tree.{ROOT, Rows}
use Rattle.f2_model.specs.declared.rows.Kind.{Kind}
use Rattle.f2_model.specs.declared.rows.Row.{Row}

-- the names in each directory that has some
abbrev pub AllNames : Type 0
AllNames = map.FinMap nat_cmp Entries

abbrev pub names_code : Coded AllNames
names_code = map.code coded_ℕ entries_code

-- the rows that references lead to
abbrev pub rows_at : List (Bor Row) → List Row
rows_at rows = map_list (λ row. row.now) rows

-- the names in a directory
abbrev pub names_at : AllNames → ℕ → Entries
names_at names directory = unwrap_or (map.get names directory) map.empty

-- the same with what they are bound to, in their order
abbrev pub dents_in : AllNames → ℕ → List Dent
dents_in names directory = dents_of (names_at names directory)

-- the names once a row is bound in its directory
abbrev pub bound : AllNames → Row → AllNames
bound names row = map.insert names row.parent (map.insert (names_at names row.parent) row.name (row.ino, row.kind))

-- a name of a directory is bound to a row
pub record IsNamed (directory : ℕ) (name : List ℕ) (at : ℕ × Kind) (row : Row) : Type 0 where
  pub ino : row.ino ≡ at.0
  pub kind : row.kind ≡ at.1
  pub below : row.ino ≢ ROOT
  pub parent : row.parent ≡ directory
  pub named : row.name ≡ name

-- the names are those of rows: each is of one of them, and each of them but the root has its name there
pub record AreNamesOf (rows : List Row) (names : AllNames) : Type 0 where
  pub sound : (directory : ℕ) (name : List ℕ) (at : ℕ × Kind) → map.get (names_at names directory) name ≡ Some at
      → (row : Row) × Contains rows row × IsNamed directory name at row
  pub complete : (row : Row) → Contains rows row → row.ino ≢ ROOT → map.contains_key (names_at names row.parent) row.name ≡ true

abbrev pub IsNamesOf : Rows → AllNames → Type 0
IsNamesOf tree names = AreNamesOf (map.values tree) names
