-- The names of directories as far as they were made of those of a base and of those that marks bring.
use Rattle.std.specs.Prelude.{◌≡◌, ◌⊎◌, ℕ, ◌<◌, List, Option, Some, None}
use Rattle.std.specs.Ordering.{nat_cmp}
use Rattle.std.specs.FinMap as map
use Rattle.f2_dir.specs.Entries.{Entries}
use Rattle.f2_model.specs.declared.rows.Kind.{Kind}
use Rattle.f2_model.specs.declared.rows.Kind.TheVariants.{Regular}
use Rattle.f2_overlay.specs.declared.rolls.Roll.{Roll}
use Rattle.f2_recover.specs.Walking.{BaseRows}
use Rattle.f2_recover.specs.declared.rows.BaseRow.{BaseRow}
use Rattle.f2_found.specs.Made.{Rolls}

-- the names of directories, by the directories' inos
abbrev pub Names : Type 0
Names = map.FinMap nat_cmp Entries

-- the names of the base's directories up to an ino
abbrev pub AreCopiedTo : Names → ℕ → Names → Type 0
AreCopiedTo base limit names = (directory : ℕ) → directory < limit → map.get names directory ≡ map.get base directory

-- names with that of a file among those of a directory, where the directory is there
abbrev pub with_name_in : Names → ℕ → List ℕ → ℕ → Option Entries → Names
with_name_in names directory name ino None = names
with_name_in names directory name ino (Some entries) = map.insert names directory (map.insert entries name (ino, Regular))

abbrev pub with_name : Names → ℕ → List ℕ → ℕ → Names
with_name names directory name ino = with_name_in names directory name ino (map.get names directory)

-- names with that of a file that was marked and that the base hasn't
abbrev pub with_file : Names → ℕ → Option Roll → Option BaseRow → Names
with_file names ino (Some roll) None = with_name names roll.parent roll.name ino
with_file names ino (Some roll) (Some base) = names
with_file names ino None base = names

-- a file was marked and the base hasn't it
pub record IsNew (rolls : Rolls) (base : BaseRows) (ino : ℕ) (roll : Roll) : Type 0 where
  pub there : map.get rolls ino ≡ Some roll
  pub no_row : map.get base ino ≡ None

-- the names of new files are none of the base, and no two are the same
pub record AreApart (rolls : Rolls) (base : BaseRows) (known : Names) : Type 0 where
  pub free : (ino : ℕ) (roll : Roll) (entries : Entries) → IsNew rolls base ino roll → map.get known roll.parent ≡ Some entries → map.get entries roll.name ≡ None
  pub alone : (ino other : ℕ) (a b : Roll) → IsNew rolls base ino a → IsNew rolls base other b → a.parent ≡ b.parent → a.name ≡ b.name → ino ≡ other

-- a new file stands in a directory under a name
pub record IsBrought (rolls : Rolls) (base : BaseRows) (directory : ℕ) (name : List ℕ) (ino : ℕ) (kind : Kind) : Type 0 where
  pub roll : Roll
  pub new : IsNew rolls base ino roll
  pub parent : roll.parent ≡ directory
  pub named : roll.name ≡ name
  pub kind_is : kind ≡ Regular

-- the names of a directory are those that the base has, and those of new files up to an ino
pub record AreNamedTo (rolls : Rolls) (base : BaseRows) (limit directory : ℕ) (entries names : Entries) : Type 0 where
  pub only : (name : List ℕ) (ino : ℕ) (kind : Kind) → map.get names name ≡ Some (ino, kind) → (map.get entries name ≡ Some (ino, kind)) ⊎ IsBrought rolls base directory name ino kind
  pub kept : (name : List ℕ) (place : ℕ × Kind) → map.get entries name ≡ Some place → map.get names name ≡ Some place
  pub added : (ino : ℕ) (roll : Roll) → ino < limit → IsNew rolls base ino roll → roll.parent ≡ directory → map.get names roll.name ≡ Some (ino, Regular)

-- there are names of a directory that are so
pub record HasNames (names : Names) (directory : ℕ) (AreSo : Entries → Type 0) : Type 0 where
  pub entries : Entries
  pub there : map.get names directory ≡ Some entries
  pub are : AreSo entries

-- the names of all directories of the base, and those of new files up to an ino
abbrev pub AreAllNamedTo : Rolls → BaseRows → Names → ℕ → ℕ → Names → Type 0
AreAllNamedTo rolls base known most limit names =
    (directory : ℕ) (entries : Entries) → directory < most → map.get known directory ≡ Some entries → HasNames names directory (AreNamedTo rolls base limit directory entries)
