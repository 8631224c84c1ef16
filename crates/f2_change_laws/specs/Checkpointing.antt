-- The tail of a checkpoint, and its last flush.
use Rattle.std.specs.Prelude.{◌≡◌, ◌+◌, ◌^◌, ◌<◌, [], length, Some, None}
use Rattle.f2_disk.specs.Contents.{Contents, IsBlock, last_of, flushed}
use Rattle.f2_model.specs.Tree.{Rows}
use Rattle.f2_model.specs.State.{State}
use Rattle.f2_image.specs.Packs.{tail_address, format_of}
use Rattle.f2_image_laws.specs.Chained.{contents_at}
use Rattle.f2_room_laws.specs.ProperTrees.{IsProperTree}
use Rattle.f2_stored.specs.Layout.{Reference, Nids, Owners, Layout}
use Rattle.f2_stored.specs.Bases.{HoldsPending, tail_of}
use Rattle.f2_stored.specs.Logs.{IsLogAddress}
use Rattle.f2_stored.specs.Numbers.{HasNids, HasOwners}
use Rattle.f2_image_laws.specs.Rolled.{image_limits}
use Rattle.f2_stored.specs.Changes.{Wrote}
use Rattle.f2_stored.specs.Stored.{KeepsPacks, KeepsLog, IsStored}

-- where a disk holds a tree but for its tail, the tail may be written: from then on that tree may remain
abbrev pub TailsMayBeWritten : Type 0
TailsMayBeWritten =
    (lists new : Contents) (layout : Layout) (state : State) (pending : Reference) (tree : Rows) →
    IsStored lists layout state →
    layout.pending ≡ None →
    HoldsPending lists layout.base pending tree →
    format_of pending.ckpt ≡ state.next_format →
    tail_address pending.ckpt.side < length lists →
    IsBlock (tail_of pending) →
    Wrote lists (tail_address pending.ckpt.side) (tail_of pending) new →
    IsStored new (record layout { pending = Some pending }) (record state { pending = Some tree })

-- the layout after a checkpoint: the pending tree is the base, and nothing stands in its log yet
abbrev pub based_on : Reference → Nids → Owners → Layout
based_on pending nids owners = record {
  base = pending;
  pending = None;
  log = [];
  settled = 0;
  next = pending.ckpt.head.log_start;
  nids = nids;
  owners = owners;
}

-- what the machine takes over at the end of a checkpoint
pub record IsDone (state after : State) (tree : Rows) : Type 0 where
  pub base : after.base ≡ tree
  pub marks : after.marks ≡ []
  pub acknowledged : after.acknowledged ≡ 0
  pub pending : after.pending ≡ None
  pub format : after.format ≡ state.next_format
  pub version : after.version ≡ state.version + 1

-- where the tail is what reads give, a flush makes the pending tree the base
abbrev pub FlushedTailsCount : Type 0
FlushedTailsCount =
    (lists : Contents) (layout : Layout) (state after : State) (pending : Reference) (tree : Rows) (nids : Nids) (owners : Owners) →
    IsStored lists layout state →
    layout.pending ≡ Some pending →
    state.pending ≡ Some tree →
    last_of (contents_at lists (tail_address pending.ckpt.side)) ≡ tail_of pending →
    IsDone state after tree →
    pending.ckpt.head.version < 2 ^ 32 →
    IsLogAddress (based_on pending nids owners) pending.ckpt.head.log_start →
    HasNids (based_on pending nids owners) →
    HasOwners (based_on pending nids owners) →
    IsProperTree (image_limits pending.ckpt.geom) tree →
    KeepsPacks (flushed lists) (based_on pending nids owners) after × KeepsLog (flushed lists) (based_on pending nids owners) after
