-- The last flush of a checkpoint.
use Rattle.std.specs.Prelude.{◌≡◌, ℕ, ◌^◌, ◌<◌, Some}
use Rattle.std.specs.FinMap as map
use Rattle.std.specs.FinSet as set
use Rattle.f2_disk.specs.Contents.{Contents, last_of, flushed}
use Rattle.f2_model.specs.State.{State, Flight, InCheck}
use Rattle.f2_model.specs.Goes.{completes}
use Rattle.f2_model.specs.declared.replies.Plan.{Plan}
use Rattle.f2_image.specs.Packs.{tail_address}
use Rattle.f2_image_laws.specs.Chained.{contents_at}
use Rattle.f2_image_laws.specs.Rolled.{image_limits}
use Rattle.f2_room_laws.specs.ProperTrees.{IsProperTree}
use Rattle.f2_change_laws.specs.Checkpointing.{based_on}
use Rattle.f2_place_laws.specs.Living.{IsWrittenOut}
use Rattle.f2_stored.specs.Places.{Places}
use Rattle.f2_stored.specs.Trees.{IsTreeAt, Unwritten, IsLiveAt}
use Rattle.f2_stored.specs.Layout.{Reference, Nids, Owners, Layout}
use Rattle.f2_stored.specs.Bases.{tail_of}
use Rattle.f2_stored.specs.Logs.{IsLogAddress}
use Rattle.f2_stored.specs.Numbers.{HasNids, HasOwners}
use Rattle.f2_stored.specs.Kept.{IsElsewhere, IsKept}
use Rattle.f2_stored.specs.Stored.{IsStored}

-- nothing of a tree is to be written
abbrev pub all_written : Unwritten
all_written = record { nodes = set.empty; pages = set.empty }

-- a checkpoint is before its last flush: its tree is pending, by an image in which it stands at its places, reads give its tail, and nobody
-- else is in flight
pub record IsBeforeLastFlush (lists : Contents) (layout : Layout) (state : State) (places : Places) (unwritten : Unwritten) (seat : ℕ) (plan : Plan) (pending : Reference) : Type 0 where
  pub stored : IsStored lists layout state
  pub there : layout.pending ≡ Some pending
  pub tree : state.pending ≡ Some state.live
  pub tail : last_of (contents_at lists (tail_address pending.ckpt.side)) ≡ tail_of pending
  pub early : pending.ckpt.head.version < 2 ^ 32
  pub proper : IsProperTree (image_limits pending.ckpt.geom) state.live
  pub stands : IsTreeAt pending.image pending.ckpt state.live places
  pub live : IsLiveAt lists pending.ckpt.geom state.live places unwritten
  pub written : IsWrittenOut places unwritten
  pub in_flight : map.get state.flights seat ≡ Some (InCheck plan)
  pub alone : (other : ℕ) (flight : Flight) → map.get state.flights other ≡ Some flight → other ≡ seat

-- where the new log starts nothing stands, and each node and each data block of the new base has its own number and owner
pub record IsReadyForLog (layout : Layout) (places : Places) : Type 0 where
  pub address : IsLogAddress layout layout.next
  pub apart : IsElsewhere places layout.next
  pub nids : HasNids layout
  pub owners : HasOwners layout

-- the last flush makes the pending tree the base, and the volume keeps its live tree from then on with an empty log
abbrev pub LastFlushesKeep : Type 0
LastFlushesKeep =
    (lists : Contents) (layout : Layout) (state : State) (places : Places) (unwritten : Unwritten) (seat : ℕ) (plan : Plan) (pending : Reference) (nids : Nids) (owners : Owners) →
    IsBeforeLastFlush lists layout state places unwritten seat plan pending →
    IsReadyForLog (based_on pending nids owners) places →
    IsKept (flushed lists) (based_on pending nids owners) (completes state seat plan).after places all_written
