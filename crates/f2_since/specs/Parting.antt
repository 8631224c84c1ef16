-- Names that part from rows, and come back to them.
use Rattle.std.specs.Prelude.{◌≡◌, ◌≢◌, ℕ, Bool, false, cond, ◌==◌, List, Option, Some, None}
use Rattle.std.specs.Option.{unwrap_or}
use Rattle.std.specs.FinMap as map
use Rattle.f2_dir.specs.Entries.{Entries}
use Rattle.f2_held.specs.Recovered.{IsOneOf, rows_of}
use Rattle.f2_laws.specs.Flights.{IsFrozen}
use Rattle.f2_model.specs.State.{State}
use Rattle.f2_model.specs.Tree.{ROOT}
use Rattle.f2_model.specs.declared.rows.Kind.{Kind}
use Rattle.f2_model.specs.declared.rows.Row.{Row}
use Rattle.f2_since.specs.Counted.{Parted, IsStill, holder}

-- a name of a directory is what a row had
abbrev pub parted_with : Parted → ℕ → List ℕ → ℕ × Kind → Parted
parted_with parted directory name place = map.insert parted directory (map.insert (unwrap_or (map.get parted directory) map.empty) name place)

abbrev pub without_among : Parted → ℕ → List ℕ → Option Entries → Parted
without_among parted directory name None = parted
without_among parted directory name (Some entries) = map.insert parted directory (map.remove entries name)

-- a name of a directory is no row's
abbrev pub parted_without : Parted → ℕ → List ℕ → Parted
parted_without parted directory name = without_among parted directory name (map.get parted directory)

abbrev pub is_ino : Option ℕ → ℕ → Bool
is_ino None ino = false
is_ino (Some other) ino = other == ino

-- a row has its name again
abbrev pub rejoined : Parted → ℕ → List ℕ → ℕ → Parted
rejoined parted directory name ino = cond (is_ino (holder parted directory name) ino) (parted_without parted directory name) parted

-- a row is of the base or a mark
abbrev pub IsDurable : State → Row → Type 0
IsDurable state row = IsOneOf row (rows_of state.base state.marks)

-- a row has an ino, a directory and a name
pub record IsAt (ino directory : ℕ) (name : List ℕ) (row : Row) : Type 0 where
  pub ino_is : row.ino ≡ ino
  pub parent_is : row.parent ≡ directory
  pub name_is : row.name ≡ name

-- the live tree goes on, and nothing else that is counted: no row of a file in fsync changes, and of the rows of base and marks those stand
-- that stood, but for those with one ino, directory and name
pub record GoesOn (state after : State) (ino directory : ℕ) (name : List ℕ) : Type 0 where
  pub base : after.base ≡ state.base
  pub marks : after.marks ≡ state.marks
  pub flights : after.flights ≡ state.flights
  pub nodes : after.node_writes ≡ state.node_writes
  pub pages : after.data_writes ≡ state.data_writes
  pub frozen : (at : ℕ) → IsFrozen state.flights at → map.get after.live at ≡ map.get state.live at
  pub stay : (row : Row) → IsDurable state row → (IsAt ino directory name row → ⊥) → IsStill state.live row → IsStill after.live row
  pub come : (row : Row) → IsDurable state row → (IsAt ino directory name row → ⊥) → IsStill after.live row → IsStill state.live row

-- a row of the base or a mark leaves its name, which in base and marks is this ino's alone
pub record Parts (state after : State) (ino directory : ℕ) (name : List ℕ) : Type 0 where
  pub others : GoesOn state after ino directory name
  pub file : ino ≢ ROOT
  pub had : Row
  pub durable : IsDurable state had
  pub was : IsAt ino directory name had
  pub gone : (row : Row) → IsAt ino directory name row → IsStill after.live row → ⊥
  pub alone : (row : Row) → IsDurable state row → row.ino ≢ ROOT → row.parent ≡ directory → row.name ≡ name → row.ino ≡ ino

-- an ino comes to have a name
pub record Joins (state after : State) (ino directory : ℕ) (name : List ℕ) : Type 0 where
  pub others : GoesOn state after ino directory name
  pub there : (row : Row) → IsAt ino directory name row → IsStill after.live row
