-- How names lead through directories that know the inos and kinds of what stands in them, and when they know them rightly.
use Rattle.std.specs.Prelude.{◌≡◌, ◌≢◌, ℕ, zero, suc, Bool, true, false, not, ◌&&◌, ◌==◌, List, [], ◌∷◌, Option, Some, None, Result, Ok, Err, if◌then◌else◌}
use Rattle.std.specs.List.{list_any}
use Rattle.std.specs.Ordering.{nat_cmp}
use Rattle.std.specs.FinMap as map
use Rattle.f2_dir.specs.Entries.{Entries}
use Rattle.f2_model.specs.Tree.{ROOT, is_directory}
use Rattle.f2_model.specs.declared.rows.Row.{Row}
use Rattle.f2_model.specs.declared.rows.Kind.{Kind}
use Rattle.f2_model.specs.declared.rows.Kind.TheVariants.{Directory}
use Rattle.f2_model.specs.declared.replies.Reply.{Reply}
use Rattle.f2_model.specs.declared.replies.Reply.TheVariants.{NoEnt, NotDir}
use Rattle.f2_files.specs.Shape.{Shapes}
use Rattle.f2_files.specs.declared.shapes.Shape.{Shape}

-- the names of each directory, by the directories' inos
abbrev pub Dirs : Type 0
Dirs = map.FinMap nat_cmp Entries

-- what a name leads to: an ino and a kind
abbrev pub Place : Type 0
Place = ℕ × Kind

abbrev pub among : List ℕ → Option Entries → Option Place
among name None = None
among name (Some names) = map.get names name

abbrev pub bound_in : Dirs → ℕ → List ℕ → Option Place
bound_in dirs directory name = among name (map.get dirs directory)

-- a name that has to be bound leads on, and else the path has no entry
abbrev pub or_missing : Option Place → (Place → Result Place Reply) → Result Place Reply
or_missing None next = Err NoEnt
or_missing (Some place) next = next place

-- where names lead from a place, and where a path leads from the root
abbrev pub led_from : Dirs → List (List ℕ) → Place → Result Place Reply
led_from dirs [] place = Ok place
led_from dirs (name ∷ names) place = if is_directory place.1 then or_missing (bound_in dirs place.0 name) (led_from dirs names) else Err NotDir

abbrev pub led : Dirs → List (List ℕ) → Result Place Reply
led dirs path = led_from dirs path (ROOT, Directory)

-- whether a directory has a name
abbrev pub has_names : Option Entries → Bool
has_names None = false
has_names (Some names) = not (map.len names == 0)

abbrev pub is_occupied : Dirs → ℕ → Bool
is_occupied dirs directory = has_names (map.get dirs directory)

-- whether a directory that passes a test stands in one
abbrev pub any_below : (ℕ → Bool) → Option Entries → Bool
any_below test None = false
any_below test (Some names) = list_any (λ place. is_directory place.1 && test place.0) (map.values names)

-- whether a directory stands so many steps below another one; that one itself, where they are none
abbrev pub reaches : Dirs → ℕ → ℕ → Bool
reaches dirs zero directory = true
reaches dirs (suc steps) directory = any_below (reaches dirs steps) (map.get dirs directory)

-- the ino and the kind of the row at the end of a walk
abbrev pub place_at : Result Row Reply → Result Place Reply
place_at (Ok row) = Ok (row.ino, row.kind)
place_at (Err refusal) = Err refusal

-- the ino of it
abbrev pub ino_of : Result Place Reply → Result ℕ Reply
ino_of (Ok place) = Ok place.0
ino_of (Err refusal) = Err refusal

abbrev pub ino_at : Result Row Reply → Result ℕ Reply
ino_at (Ok row) = Ok row.ino
ino_at (Err refusal) = Err refusal

-- whether a directory is there
abbrev pub is_directory_there : Option Shape → Bool
is_directory_there None = false
is_directory_there (Some shape) = is_directory shape.kind

-- directories with a name bound in one of them, and with a name taken out of one
abbrev pub binding_in : Dirs → ℕ → List ℕ → Place → Option Entries → Dirs
binding_in dirs directory name place None = dirs
binding_in dirs directory name place (Some names) = map.insert dirs directory (map.insert names name place)

abbrev pub with_name : Dirs → ℕ → List ℕ → Place → Dirs
with_name dirs directory name place = binding_in dirs directory name place (map.get dirs directory)

abbrev pub taking_out : Dirs → ℕ → List ℕ → Option Entries → Dirs
taking_out dirs directory name None = dirs
taking_out dirs directory name (Some names) = map.insert dirs directory (map.remove names name)

abbrev pub without_name : Dirs → ℕ → List ℕ → Dirs
without_name dirs directory name = taking_out dirs directory name (map.get dirs directory)

-- the names of directories are those of the rows but the root, each bound to the row's ino and kind
pub record BindsNames (shapes : Shapes) (dirs : Dirs) : Type 0 where
  pub bound : (ino : ℕ) (shape : Shape) → map.get shapes ino ≡ Some shape → ino ≢ ROOT → bound_in dirs shape.parent shape.name ≡ Some (ino, shape.kind)
  pub only : (directory : ℕ) (name : List ℕ) (ino : ℕ) (kind : Kind) → bound_in dirs directory name ≡ Some (ino, kind) →
      (shape : Shape) × (map.get shapes ino ≡ Some shape) × (ino ≢ ROOT) × (shape.parent ≡ directory) × (shape.name ≡ name) × (shape.kind ≡ kind)
  pub directories : (ino : ℕ) → map.contains_key dirs ino ≡ is_directory_there (map.get shapes ino)
