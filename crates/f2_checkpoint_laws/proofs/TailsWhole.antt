-- From the write of a checkpoint's tail to all that a running volume keeps.
use Rattle.std.proofs.Common.{ℕ, inl, List, refl, sym, ◌∙◌, subst}
use Rattle.std.specs.Prelude.{Some}
use Rattle.f2_format.specs.Geometry.{ImageGeometry}
use Rattle.f2_disk.specs.Contents.{Contents, IsWritten, flushed}
use Rattle.f2_model.specs.State.{State}
use Rattle.f2_model.specs.declared.replies.Plan.{Plan}
use Rattle.f2_image.specs.Packs.{Checkpoint, tail_address}
use Rattle.f2_image_laws.specs.Rolled.{image_limits}
use Rattle.f2_room_laws.specs.ProperTrees.{IsProperTree}
use Rattle.f2_change_laws.proofs.OneMore.{written_last}
use Rattle.f2_place_laws.proofs.LiveReads.{wrote_elsewhere, live_flushed}
use Rattle.f2_stored.specs.Places.{Places}
use Rattle.f2_stored.specs.Trees.{Unwritten, IsLiveAt}
use Rattle.f2_stored.specs.Layout.{Layout}
use Rattle.f2_stored.specs.Stored.{KeepsPacks, IsStored, running, mounting}
use Rattle.f2_stored.specs.Kept.{IsElsewhere}
use Rattle.f2_checkpoint_laws.specs.Done.{IsBeforeLastFlush}
use Rattle.f2_checkpoint_laws.specs.Ended.{tailed, pending_by, IsBeforeTail, TailsEndWhole, CheckpointsEndWhole}
use Rattle.f2_checkpoint_laws.proofs.Tailed.{flushed_within}
use Rattle.f2_checkpoint_laws.proofs.Pendings.{node_off, data_off, stands, has_tail, may_remain}
use Rattle.f2_checkpoint_laws.proofs.Gone.{checkpoints_may_begin, checkpoints_go_on}
use Rattle.f2_checkpoint_laws.proofs.WholeAfter.{last_flushes_keep_whole}

-- how long the history is counts for nothing on the disk
same_packs : (lists : Contents) (layout : Layout) (state : State) (entries : ℕ) → KeepsPacks lists layout state → KeepsPacks lists layout (record state { entries = entries })
same_packs lists layout state entries packs = record {
  whole = packs.whole;
  packs = packs.packs;
  no_later = packs.no_later;
  pending = packs.pending;
  format = packs.format;
  next_format = packs.next_format;
  version = packs.version;
  early = packs.early;
}

entries_alike : (lists : Contents) (layout : Layout) (state : State) (entries : ℕ) → IsStored lists layout state → IsStored lists layout (record state { entries = entries })
entries_alike lists layout state entries (running packs log) = running (same_packs lists layout state entries packs)
    (record {
      base = log.base;
      no_log = log.no_log;
      log = log.log;
      nids = log.nids;
      owners = log.owners;
      marks = log.marks;
      acknowledged = log.acknowledged;
      fitting = record { base = log.fitting.base; names = log.fitting.names; trees = log.fitting.trees };
    })
entries_alike lists layout state entries (mounting packs image) = mounting (same_packs lists layout state entries packs) (record { base = image.base; log = image.log; ends = image.ends; acknowledged = image.acknowledged })

module _ (lists new : Contents) (layout : Layout) (state : State) (places : Places) (unwritten : Unwritten) (seat : ℕ) (plan : Plan) (ckpt : Checkpoint) (tail : List ℕ)
    (is : IsBeforeTail lists layout state places unwritten seat plan ckpt tail) (made : IsWritten (tail_address ckpt.side) tail (flushed lists) new) where
  -- nothing of the tree stands where the tail does
  off : IsElsewhere places (tail_address ckpt.side)
  off = record {
    nodes = λ ino offset node there. node_off lists layout state places unwritten ckpt tail is.checkpointing is.written is.ready node.at (is.checkpointing.live.nodes ino offset node there (is.written.nodes ino offset node there)).in_zone;
    pages = λ ino page at there. data_off lists layout state places unwritten ckpt tail is.checkpointing is.written is.ready at (is.checkpointing.live.pages ino page at there (is.written.pages ino page at there)).in_zone;
  }

  live : IsLiveAt new layout.base.ckpt.geom state.live places unwritten
  live = wrote_elsewhere (flushed lists) state.live places unwritten layout.base.ckpt.geom (live_flushed lists layout.base.ckpt.geom state.live places unwritten is.checkpointing.live)
      new (tail_address ckpt.side) tail off (inl made)

  before : IsBeforeLastFlush new (record layout { pending = Some (pending_by lists ckpt tail) }) (tailed state seat) places unwritten seat plan (pending_by lists ckpt tail)
  before = record {
    stored = entries_alike new (record layout { pending = Some (pending_by lists ckpt tail) }) (record state { pending = Some state.live }) (tailed state seat).entries
        (may_remain lists layout state places unwritten ckpt tail is.checkpointing is.written is.ready new (inl made));
    there = refl;
    tree = refl;
    tail = written_last (flushed lists) new (tail_address ckpt.side) tail (flushed_within lists (tail_address ckpt.side) is.ready.within) made
        ∙ sym (has_tail lists layout state places unwritten ckpt tail is.checkpointing is.written is.ready);
    early = is.ready.early;
    proper = subst (λ (e : ImageGeometry). IsProperTree (image_limits e) state.live) (sym is.ready.geom) is.checkpointing.proper;
    stands = stands lists layout state places unwritten ckpt tail is.checkpointing is.written is.ready;
    live = subst (λ (e : ImageGeometry). IsLiveAt new e state.live places unwritten) (sym is.ready.geom) live;
    written = is.written;
    in_flight = is.alone.in_flight;
    alone = is.alone.only;
  }

pub tails_end_whole : TailsEndWhole
tails_end_whole lists new layout state places unwritten seat plan ckpt tail is made =
    last_flushes_keep_whole new (record layout { pending = Some (pending_by lists ckpt tail) }) (tailed state seat) places unwritten seat plan (pending_by lists ckpt tail)
    (before lists new layout state places unwritten seat plan ckpt tail is made) is.apart

-- a whole checkpoint
pub checkpoints_end_whole : CheckpointsEndWhole
checkpoints_end_whole lists now new layout state places unwritten seat plan ckpt tail is made =
    tails_end_whole now new layout state places unwritten seat plan ckpt tail
    (record {
      checkpointing = checkpoints_go_on layout state lists now is.there places is.left unwritten (checkpoints_may_begin lists layout state is.there is.left is.began) is.wrote;
      written = is.written;
      ready = is.ready;
      apart = is.apart;
      alone = is.alone;
    })
    made
