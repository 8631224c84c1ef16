-- What a volume counts since its base, and when that is what a state of the machine has.
use Rattle.std.specs.Prelude.{◌≡◌, ◌≢◌, ℕ, Option, Some, None, List, ◌++◌, map as map_list}
use Rattle.std.specs.List.{filter_map}
use Rattle.std.specs.Option.{option_map}
use Rattle.std.specs.Ordering.{nat_cmp}
use Rattle.std.specs.FinMap as map
use Rattle.f2_dir.specs.Entries.{Entries}
use Rattle.f2_files.specs.declared.shapes.Shape.{Shape}
use Rattle.f2_format.specs.Offsets.{node_count}
use Rattle.f2_model.specs.Fallback.{Both, frozen_inos, owed, needed, sum_of}
use Rattle.f2_model.specs.State.{State}
use Rattle.f2_model.specs.Tree.{Rows, ROOT, IsGoodTree}
use Rattle.f2_model.specs.declared.rows.Row.{Row}
use Rattle.f2_held.specs.Taken.{Taken, none_taken, raised, bound}
use Rattle.f2_held.specs.Recovered.{IsOneOf, IsTakenOf, AreOfOneKind, rows_of}

-- names by their directories, each with what had it
abbrev pub Parted : Type 0
Parted = map.FinMap nat_cmp Entries

abbrev pub holder_among : List ℕ → Option Entries → Option ℕ
holder_among name None = None
holder_among name (Some entries) = option_map (λ place. place.0) (map.get entries name)

-- the ino of the row that had a name
abbrev pub holder : Parted → ℕ → List ℕ → Option ℕ
holder parted directory name = holder_among name (map.get parted directory)

-- what is counted: what a recovery may put together, the names that no row has any more, and the blocks written to each zone
pub record Counted : Type 0 where
  pub held : Taken
  pub parted : Parted
  pub nodes : ℕ
  pub pages : ℕ

-- a file of a shape comes in with its name
abbrev pub with_shape : Taken → Shape → Taken
with_shape taken shape = record {
  files = raised taken.files shape.ino (record { nodes = node_count (map.keys shape.pages); pages = map.len shape.pages });
  directories = bound taken.directories shape.parent shape.name;
}

abbrev pub nothing_since : Counted
nothing_since = record { held = none_taken; parted = map.empty; nodes = 0; pages = 0 }

-- the rows that a recovery may put together: those of the base, of the marks, and of the files in fsync, which may be marked any time
abbrev pub held_rows : State → List Row
held_rows state = map.values state.base ++ map_list (λ mark. mark.row) state.marks ++ filter_map (map.get state.live) (frozen_inos state)

-- a tree still has a row where it was, under its name
abbrev pub IsStill : Rows → Row → Type 0
IsStill live row = (now : Row) × (map.get live row.ino ≡ Some now) × (now.parent ≡ row.parent) × (now.name ≡ row.name)

-- what was counted is what a state has
pub record IsSince (since : Counted) (state : State) : Type 0 where
  pub held : IsTakenOf state.base (held_rows state) since.held
  pub nodes : since.nodes ≡ state.node_writes
  pub pages : since.pages ≡ state.data_writes
  -- each row of the base and of the marks is still where it was, or its name has parted from it; and no other name has
  pub parted : (row : Row) → IsOneOf row (rows_of state.base state.marks) → row.ino ≢ ROOT → (IsStill state.live row → ⊥) → holder since.parted row.parent row.name ≡ Some row.ino
  pub only : (directory : ℕ) (name : List ℕ) (ino : ℕ) → holder since.parted directory name ≡ Some ino →
      (row : Row) × IsOneOf row (rows_of state.base state.marks) × (row.ino ≡ ino) × (ino ≢ ROOT) × (row.parent ≡ directory) × (row.name ≡ name) × (IsStill state.live row → ⊥)

-- what holds of the state of a running volume: its live tree is good, the base's rows stand at their inos, and the rows of one ino are of
-- one kind
pub record IsRunning (state : State) : Type 0 where
  pub most : ℕ
  pub live : IsGoodTree most state.live
  pub keyed : (ino : ℕ) (row : Row) → map.get state.base ino ≡ Some row → row.ino ≡ ino
  pub kinds : AreOfOneKind (held_rows state ++ map.values state.live)

-- what would have been written to each zone since the base, were one file fsynced more
abbrev pub writes_with : State → ℕ → Both
writes_with state ino = sum_of (sum_of (record { nodes = state.node_writes; pages = state.data_writes }) (owed state)) (needed state ino)
