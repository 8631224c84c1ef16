-- What contracts see of a core, and which state of the machine it is in.
use Rattle.std.specs.Prelude.{◌≡◌, ℕ, ◌+◌, ◌<◌, ◌≤◌, [], length, IfSome, Option, Some, None, if◌then◌else◌}
use Rattle.std.specs.Option.{option_map}
use Rattle.std.specs.FinMap as map
use Rattle.std.specs.FinSet as set
use Rattle.f2_format.specs.Geometry.{ImageGeometry, IsGeometry}
use Rattle.f2_disk.specs.Contents.{Contents, alone}
use Rattle.f2_model.specs.Tree.{Rows, ROOT}
use Rattle.f2_model.specs.declared.rows.Row.{Row}
use Rattle.f2_model.specs.State.{State, Meaning, initial}
use Rattle.f2_model.specs.declared.modes.Mode.{Mode}
use Rattle.f2_model.specs.declared.modes.Mode.TheVariants.{Shut, Up}
use Rattle.f2_model.specs.Step.{calm, is_up}
use Rattle.f2_model.specs.declared.modes.Format.TheVariants.{Two}
use Rattle.f2_model.specs.Run.{IsRun}
use Rattle.f2_model.specs.History.{History}
use Rattle.f2_image.specs.Images.{Image}
use Rattle.f2_image.specs.Faults.{MOST_VERSION}
use Rattle.f2_laid.specs.Laid.{IsKept, IsLaid, root_alone}
use Rattle.f2_laid.specs.declared.stored.Stored.{Stored}
use Rattle.f2_flat.specs.Flat.{IsFlat, limits_of}
use Rattle.f2_core.specs.declared.volumes.Volume.{Volume}

-- the disk that a core holds, the sizes of its image, what it knows while it is open, and its history
pub record Seen (D : Type 0) : Type 0 where
  pub disk : D
  pub geometry : ImageGeometry
  pub volume : Option Volume
  pub history : History

-- the entries for which a core takes room at its mount: those before a call may begin, and 32,768 more
abbrev pub HISTORY_ROOM : ℕ
HISTORY_ROOM = 294912

-- what holds of an open volume
pub record IsOpen (geom : ImageGeometry) (history : History) (volume : Volume) : Type 0 where
  pub flat : IsFlat geom volume.files
  pub sizes : volume.stored.geometry ≡ geom
  pub kept : IsKept geom volume.stored.places
  pub version : volume.stored.version ≤ MOST_VERSION + length history.entries
  pub room : HISTORY_ROOM ≤ length history.entries + history.spare

-- what holds of every core on a disk of so many blocks
pub record IsCore (geom : ImageGeometry) (blocks : ℕ) (volume : Option Volume) (history : History) : Type 0 where
  pub sizes : IsGeometry geom
  pub held : geom.blocks ≤ blocks
  pub opened : IfSome volume (IsOpen geom history)

abbrev pub mode_of : Option Volume → Mode
mode_of None = Shut
mode_of (Some volume) = Up

-- a disk holds one image, in which a tree is laid out as a checkpoint tells
pub record IsHeld (geom : ImageGeometry) (lists : Contents) (base : Rows) (stored : Stored) : Type 0 where
  pub image : Image
  pub one : lists ≡ alone image
  pub laid : IsLaid image base stored
  pub sizes : stored.geometry ≡ geom

-- what an open volume knows is so in a state
pub record Knows (state : State) (stored : Stored) (volume : Volume) : Type 0 where
  pub live : state.live ≡ volume.files
  pub told : volume.stored ≡ stored

-- what a new image stands for: the root alone, by its first checkpoint
abbrev pub new_image : Meaning
new_image = record { base = root_alone; marks = []; format = Two; version = 1 }

-- A core that has met no fault is in a state of the machine: one that its history leads to from the tree of the root
-- alone, in which nobody is in flight and nothing is marked, and whose base and version stand on the disk.
pub record IsIn (geom : ImageGeometry) (told : Option Contents) (volume : Option Volume) (history : History) (state : State) : Type 0 where
  pub run : IsRun (limits_of geom) calm (initial new_image) history.entries history.choices state
  pub mode : state.mode ≡ mode_of volume
  pub flights : state.flights ≡ map.empty
  pub marks : state.marks ≡ []
  pub acknowledged : state.acknowledged ≡ 0
  pub pending : state.pending ≡ None
  pub format : state.format ≡ Two
  pub logged : state.logged ≡ set.empty
  pub entries : state.entries ≡ length history.entries
  pub flat : IsFlat geom state.base
  -- the base has the first of the live rows
  pub older : (ino : ℕ) (row : Row) → map.get state.base ino ≡ Some row → IfSome volume (λ (opened : Volume). ino < map.len opened.files + ROOT)
  pub stored : Stored
  pub newest : stored.version ≡ state.version
  pub version : stored.version ≤ length history.entries + 1
  pub known : IfSome volume (Knows state stored)
  pub held : IfSome told (λ lists. IsHeld geom lists state.base stored)

-- the tree that calls see, of an open volume
abbrev pub live_where_up : State → Option Rows
live_where_up state = if is_up state.mode then Some state.live else None

abbrev pub tree_of : Option Volume → Option Rows
tree_of volume = option_map (λ (opened : Volume). opened.files) volume
