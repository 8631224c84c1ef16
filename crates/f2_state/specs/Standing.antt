-- In which state of the machine a running volume stands on its disk.
use Rattle.std.specs.Prelude.{◌≡◌, ◌≤◌, ℕ, Bool, true, ◌&&◌, length, Option, Some, IsSome, IfSome, is_none}
use Rattle.f2_disk.specs.Contents.{Contents}
use Rattle.f2_model.specs.State.{State}
use Rattle.f2_model.specs.Step.{is_up, checking_seat}
use Rattle.f2_files.specs.Known.{IsKnownOf}
use Rattle.f2_image_laws.specs.Rolled.{image_limits}
use Rattle.f2_room_laws.specs.RoomForWrites.{IsRoomyState}
use Rattle.f2_stored.specs.Layout.{Layout}
use Rattle.f2_stored.specs.Places.{Places}
use Rattle.f2_stored.specs.Trees.{Unwritten}
use Rattle.f2_stored.specs.Stored.{IsStored}
use Rattle.f2_stored.specs.Whole.{IsKeptWhole}
use Rattle.f2_state.specs.Seen.{Seen}
use Rattle.f2_state.specs.Contents.{AreContentsOf}
use Rattle.f2_state.specs.Placed.{ArePagesPlaced, ArePagesWithin}

-- whether a state is that of an open volume in which no seat makes a checkpoint
abbrev pub is_between : State → Bool
is_between state = is_up state.mode && is_none (checking_seat state)

-- A volume stands in a state on some contents of a disk, but for the pages in memory. The state is proper, with room for what is owed, and what
-- counts of it is stored at all times. Between checkpoints the live tree and the fsyncs in flight are kept too; a checkpoint and a closed volume
-- leave part of that.
pub record StandsAt {D : Type 0} (lists : Contents) (volume : Seen D) (state : State) : Type 0 where
  pub layout : Layout
  pub places : Places
  pub unwritten : Unwritten
  pub roomy : IsRoomyState (image_limits layout.base.ckpt.geom) state
  pub stored : IsStored lists layout state
  pub kept : is_between state ≡ true → IsKeptWhole lists layout state places unwritten
  pub sizes : layout.base.ckpt.geom ≡ volume.geometry
  pub known : IsKnownOf volume.files state
  pub placed : ArePagesPlaced volume.files places
  pub mode : volume.mode ≡ state.mode
  pub entries : state.entries ≡ length volume.history.entries

-- a volume stands in a state on what its disk holds, pages in memory included
pub record StandsOn {D : Type 0} (lists : Contents) (volume : Seen D) (state : State) : Type 0 where
  pub at : StandsAt lists volume state
  pub contents : AreContentsOf lists volume.files volume.pages state

-- the same of a volume whose disk may not tell what it holds, of which nothing is known then
pub record StandsIn {D : Type 0} (told : Option Contents) (volume : Seen D) (state : State) : Type 0 where
  pub lists : Contents
  pub holds : told ≡ Some lists
  pub stands : StandsOn lists volume state

-- wherever one volume stood there stands another one
abbrev pub StandsStill : {D : Type 0} → Option Contents → Option Contents → Seen D → Seen D → Type 0
StandsStill told now old new = (state : State) → StandsIn told old state → StandsIn now new state

-- A volume stands in some state on what its disk tells. Where the disk doesn't tell it stands on some contents all the same, which its writes and
-- flushes change as they would a disk's, but nothing is known of what reads give, and so of the pages in memory.
pub record StandsSomewhere {D : Type 0} (told : Option Contents) (volume : Seen D) : Type 0 where
  pub lists : Contents
  pub state : State
  pub at : StandsAt lists volume state
  pub holds : IfSome told (λ held. held ≡ lists)
  pub contents : IsSome told → AreContentsOf lists volume.files volume.pages state

-- what holds of every running volume on a disk of so many blocks, whatever the disk tells: the image is within the disk and each page within the
-- image, and the volume stands in some state
pub record IsVolume {D : Type 0} (blocks : ℕ) (told : Option Contents) (volume : Seen D) : Type 0 where
  pub held : volume.geometry.blocks ≤ blocks
  pub within : ArePagesWithin volume.geometry volume.files
  pub somewhere : StandsSomewhere told volume
