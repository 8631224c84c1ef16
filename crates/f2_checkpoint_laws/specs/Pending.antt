-- The tail of a checkpoint all of which was written and flushed.
use Rattle.std.specs.Prelude.{◌≡◌, ℕ, ◌+◌, ◌^◌, ◌<◌, List, length, slice_set, Some}
use Rattle.f2_disk.specs.Contents.{Contents, IsBlock, latest, flushed}
use Rattle.f2_model.specs.State.{State}
use Rattle.f2_image.specs.Images.{Image}
use Rattle.f2_image.specs.Packs.{Checkpoint, IsCheckpoint, other_side, tail_address, format_of}
use Rattle.f2_place_laws.specs.Living.{IsWrittenOut}
use Rattle.f2_stored.specs.Places.{Places}
use Rattle.f2_stored.specs.Trees.{IsTableOf, Unwritten}
use Rattle.f2_stored.specs.Layout.{Layout}
use Rattle.f2_stored.specs.Bases.{HoldsPending}
use Rattle.f2_stored.specs.Changes.{Wrote}
use Rattle.f2_stored.specs.Stored.{IsStored}
use Rattle.f2_checkpoint_laws.specs.Writing.{IsCheckpointing}

-- the image that a disk has by what reads give, but for a tail
abbrev pub with_tail : Contents → ℕ → List ℕ → Image
with_tail lists at tail = slice_set (latest lists) at tail

-- such an image has the checkpoint of the other pack, with the next version, and a table that tells the live tree's places
pub record IsReadyForTail (lists : Contents) (layout : Layout) (state : State) (places : Places) (ckpt : Checkpoint) (tail : List ℕ) : Type 0 where
  pub checkpoint : IsCheckpoint (with_tail lists (tail_address ckpt.side) tail) ckpt
  pub geom : ckpt.geom ≡ layout.base.ckpt.geom
  pub side : ckpt.side ≡ other_side layout.base.ckpt.side
  pub version : ckpt.head.version ≡ layout.base.ckpt.head.version + 1
  pub early : ckpt.head.version < 2 ^ 32
  pub format : format_of ckpt ≡ state.next_format
  pub table : IsTableOf (with_tail lists (tail_address ckpt.side) tail) ckpt places
  pub within : tail_address ckpt.side < length lists
  pub block : IsBlock tail

-- once all of the live tree is written, a flush makes the disk hold it but for the tail
abbrev pub WrittenTreesArePending : Type 0
WrittenTreesArePending =
    (lists : Contents) (layout : Layout) (state : State) (places : Places) (unwritten : Unwritten) (ckpt : Checkpoint) (tail : List ℕ) →
    IsCheckpointing lists layout state places unwritten →
    IsWrittenOut places unwritten →
    IsReadyForTail lists layout state places ckpt tail →
    HoldsPending (flushed lists) layout.base (record { image = with_tail lists (tail_address ckpt.side) tail; ckpt = ckpt }) state.live

-- and then the write of the tail, made or failed, makes the live tree a pending one
abbrev pub TailsMakePending : Type 0
TailsMakePending =
    (lists new : Contents) (layout : Layout) (state : State) (places : Places) (unwritten : Unwritten) (ckpt : Checkpoint) (tail : List ℕ) →
    IsCheckpointing lists layout state places unwritten →
    IsWrittenOut places unwritten →
    IsReadyForTail lists layout state places ckpt tail →
    Wrote (flushed lists) (tail_address ckpt.side) tail new →
    IsStored new (record layout { pending = Some (record { image = with_tail lists (tail_address ckpt.side) tail; ckpt = ckpt }) }) (record state { pending = Some state.live })
