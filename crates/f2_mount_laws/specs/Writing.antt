-- What a mount's checkpoint may write, and where.
use Rattle.std.specs.Prelude.{◌≡◌, ◌≢◌, ℕ, None}
use Rattle.f2_disk.specs.Contents.{Contents}
use Rattle.f2_model.specs.State.{State}
use Rattle.f2_place_laws.specs.Living.{with_page, with_node}
use Rattle.f2_stored.specs.Places.{NodeAt, Places}
use Rattle.f2_stored.specs.Trees.{Unwritten}
use Rattle.f2_stored.specs.Layout.{Layout}
use Rattle.f2_stored.specs.Changes.{IsFree}
use Rattle.f2_stored.specs.Kept.{IsElsewhere}
use Rattle.f2_stored.specs.Stored.{KeepsPacks, KeepsImage}
use Rattle.f2_checkpoint_laws.specs.Writing.{IsCheckpointing}
use Rattle.f2_mount_laws.specs.Taken.{IsTakenOver}

-- a volume goes on with what it takes over of the image that its disk keeps
pub record GoesOn (lists : Contents) (layout : Layout) (state : State) (places : Places) (unwritten : Unwritten) : Type 0 where
  pub packs : KeepsPacks lists layout state
  pub image : KeepsImage lists layout state
  pub none_pending : layout.pending ≡ None
  pub taken : IsTakenOver layout.base.image layout.base.ckpt state.base state.marks state.live places unwritten

-- so a checkpoint of it may begin: what `f2_checkpoint_laws` asks of a disk that a checkpoint is written to. A definition whose tree isn't that
-- of base and marks would break it: such a tree needn't be proper
abbrev pub TakenOverTreesMayBeWritten : Type 0
TakenOverTreesMayBeWritten = (lists : Contents) (layout : Layout) (state : State) (places : Places) (unwritten : Unwritten) → GoesOn lists layout state places unwritten → IsCheckpointing lists layout state places unwritten

-- and nothing of the tree stands at an address that is free. A definition by which a page of a marked file stands anywhere but where its last
-- mark has it would break it: only what the image is read from isn't free
abbrev pub FreeAddressesAreElsewhere : Type 0
FreeAddressesAreElsewhere =
    (lists : Contents) (layout : Layout) (state : State) (places : Places) (unwritten : Unwritten) (at : ℕ) →
    GoesOn lists layout state places unwritten →
    IsFree layout at →
    IsElsewhere places at

-- nor does it once more of the tree was written, but at the addresses that were written, each of which is in use from then on
abbrev pub WrittenPagesStayElsewhere : Type 0
WrittenPagesStayElsewhere = (places : Places) (ino page new at : ℕ) → IsElsewhere places at → new ≢ at → IsElsewhere (with_page places ino page new) at

abbrev pub WrittenNodesStayElsewhere : Type 0
WrittenNodesStayElsewhere = (places : Places) (ino offset : ℕ) (node : NodeAt) (at : ℕ) → IsElsewhere places at → node.at ≢ at → IsElsewhere (with_node places ino offset node) at
