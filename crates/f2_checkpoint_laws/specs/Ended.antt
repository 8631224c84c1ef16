-- All that a running volume keeps, from the end of a checkpoint on.
use Rattle.std.specs.Prelude.{◌≡◌, ◌≢◌, ℕ, List, [], ◌∷◌, map as map_list, Option, Some, None}
use Rattle.std.specs.FinMap as map
use Rattle.f2_format.specs.Geometry.{ImageGeometry}
use Rattle.f2_disk.specs.Contents.{Contents, IsWritten, flushed}
use Rattle.f2_model.specs.Tree.{Rows}
use Rattle.f2_model.specs.State.{State, Flight, InCheck, pair_cmp}
use Rattle.f2_model.specs.Turns.{turn_with}
use Rattle.f2_model.specs.Goes.{completes}
use Rattle.f2_model.specs.declared.events.Answer.TheVariants.{Stepped}
use Rattle.f2_model.specs.declared.histories.Entry.TheVariants as entry
use Rattle.f2_model.specs.declared.replies.Step.TheVariants as step
use Rattle.f2_model.specs.declared.replies.Plan.{Plan}
use Rattle.f2_image.specs.Packs.{Checkpoint, tail_address}
use Rattle.f2_change_laws.specs.Checkpointing.{based_on}
use Rattle.f2_place_laws.specs.Living.{IsWrittenOut}
use Rattle.f2_stored.specs.Places.{NodeAt, Places, HasPlaces}
use Rattle.f2_stored.specs.Trees.{Unwritten}
use Rattle.f2_stored.specs.Layout.{Reference, Nids, Owners, Layout}
use Rattle.f2_stored.specs.Kept.{IsElsewhere, IsKept}
use Rattle.f2_stored.specs.Whole.{IsKeptWhole}
use Rattle.f2_checkpoint_laws.specs.Writing.{IsCheckpointing}
use Rattle.f2_checkpoint_laws.specs.Pending.{with_tail, IsReadyForTail}
use Rattle.f2_checkpoint_laws.specs.Going.{HasWritten}
use Rattle.f2_checkpoint_laws.specs.Done.{all_written, IsBeforeLastFlush}

-- the nid of each node of a tree
abbrev pub nids_of : Places → Nids
nids_of places = map.from_entries {R = pair_cmp} (map_list (λ (e : (ℕ × ℕ) × NodeAt). (e.0, e.1.nid)) (map.entries places.nodes))

-- the page that stands at each address, of some pages
abbrev pub with_owner : ℕ × ℕ → Option ℕ → Owners → Owners
with_owner key None owners = owners
with_owner key (Some at) owners = map.insert owners at key

abbrev pub owners_among : map.FinMap pair_cmp ℕ → List (ℕ × ℕ) → Owners
owners_among pages [] = map.empty
owners_among pages (key ∷ keys) = with_owner key (map.get pages key) (owners_among pages keys)

-- and of all pages of a tree
abbrev pub owners_of : Places → Owners
owners_of places = owners_among places.pages (map.keys places.pages)

-- the layout after a checkpoint: the pending tree is the base, whose nodes and pages have the nids and the addresses that are known
abbrev pub layout_after : Reference → Places → Layout
layout_after pending places = based_on pending (nids_of places) (owners_of places)

-- from the last flush on the volume keeps all that it keeps as a running one, where nothing of its tree stands at the start of the new log.
-- A layout whose nids forget the indirect nodes would break it: a nid of the base has to be its node's own
abbrev pub LastFlushesKeepWhole : Type 0
LastFlushesKeepWhole =
    (lists : Contents) (layout : Layout) (state : State) (places : Places) (unwritten : Unwritten) (seat : ℕ) (plan : Plan) (pending : Reference) →
    IsBeforeLastFlush lists layout state places unwritten seat plan pending →
    IsElsewhere places pending.ckpt.head.log_start →
    IsKeptWhole (flushed lists) (layout_after pending places) (completes state seat plan).after places all_written

-- what that layout tells of nids and addresses is what is known of the tree: no node and no page is forgotten, and none is told that isn't there
pub record TellsNumbers (layout : Layout) (places : Places) : Type 0 where
  pub nids : (ino offset : ℕ) (node : NodeAt) → map.get places.nodes (ino, offset) ≡ Some node → map.get layout.nids (ino, offset) ≡ Some node.nid
  pub only_nids : (key : ℕ × ℕ) (nid : ℕ) → map.get layout.nids key ≡ Some nid → (node : NodeAt) × (map.get places.nodes key ≡ Some node) × (node.nid ≡ nid)
  pub owners : (ino page at : ℕ) → map.get places.pages (ino, page) ≡ Some at → at ≢ 0 → map.get layout.owners at ≡ Some (ino, page)
  pub only_owners : (at : ℕ) (owner : ℕ × ℕ) → map.get layout.owners at ≡ Some owner → map.get places.pages owner ≡ Some at

abbrev pub LayoutsAfterTellNumbers : Type 0
LayoutsAfterTellNumbers = (geom : ImageGeometry) (tree : Rows) (places : Places) (pending : Reference) → HasPlaces geom tree places → TellsNumbers (layout_after pending places) places

-- the pending tree by the image that the disk has once the tail is written
abbrev pub pending_by : Contents → Checkpoint → List ℕ → Reference
pending_by lists ckpt tail = record { image = with_tail lists (tail_address ckpt.side) tail; ckpt = ckpt }

-- the state after its tail was written
abbrev pub tailed : State → ℕ → State
tailed state seat = (turn_with (Stepped step.Tail) (entry.CpTail seat ∷ []) [] (record state { pending = Some state.live })).after

-- the checkpoint of a seat is in flight, and no other call is
pub record IsAlone (state : State) (seat : ℕ) (plan : Plan) : Type 0 where
  pub in_flight : map.get state.flights seat ≡ Some (InCheck plan)
  pub only : (other : ℕ) (flight : Flight) → map.get state.flights other ≡ Some flight → other ≡ seat

-- a checkpoint that is in flight alone has written all but its tail
pub record IsBeforeTail (lists : Contents) (layout : Layout) (state : State) (places : Places) (unwritten : Unwritten) (seat : ℕ) (plan : Plan) (ckpt : Checkpoint) (tail : List ℕ) : Type 0 where
  pub checkpointing : IsCheckpointing lists layout state places unwritten
  pub written : IsWrittenOut places unwritten
  pub ready : IsReadyForTail lists layout state places ckpt tail
  pub apart : IsElsewhere places ckpt.head.log_start
  pub alone : IsAlone state seat plan

-- so a flush, the write of the tail, and the last flush lead there. A checkpoint beside which an fsync is in flight would break it: its mark
-- is in no log any more
abbrev pub TailsEndWhole : Type 0
TailsEndWhole =
    (lists new : Contents) (layout : Layout) (state : State) (places : Places) (unwritten : Unwritten) (seat : ℕ) (plan : Plan) (ckpt : Checkpoint) (tail : List ℕ) →
    IsBeforeTail lists layout state places unwritten seat plan ckpt tail →
    IsWritten (tail_address ckpt.side) tail (flushed lists) new →
    IsKeptWhole (flushed new) (layout_after (pending_by lists ckpt tail) places) (completes (tailed state seat) seat plan).after places all_written

-- a checkpoint of a running volume, in flight alone, has written all but its tail, from what the disk kept when it began
pub record IsCheckpointWritten (lists now : Contents) (layout : Layout) (state : State) (places : Places) (unwritten : Unwritten) (seat : ℕ) (plan : Plan) (ckpt : Checkpoint) (tail : List ℕ) : Type 0 where
  pub alone : IsAlone state seat plan
  -- how it began
  pub there : Places
  pub left : Unwritten
  pub began : IsKept lists layout state there left
  -- what it wrote
  pub wrote : HasWritten layout state lists there left now places unwritten
  pub written : IsWrittenOut places unwritten
  -- its tail, and where the next log starts
  pub ready : IsReadyForTail now layout state places ckpt tail
  pub apart : IsElsewhere places ckpt.head.log_start

-- so it leads from what a running volume keeps to all that one keeps
abbrev pub CheckpointsEndWhole : Type 0
CheckpointsEndWhole =
    (lists now new : Contents) (layout : Layout) (state : State) (places : Places) (unwritten : Unwritten) (seat : ℕ) (plan : Plan) (ckpt : Checkpoint) (tail : List ℕ) →
    IsCheckpointWritten lists now layout state places unwritten seat plan ckpt tail →
    IsWritten (tail_address ckpt.side) tail (flushed now) new →
    IsKeptWhole (flushed new) (layout_after (pending_by now ckpt tail) places) (completes (tailed state seat) seat plan).after places all_written
