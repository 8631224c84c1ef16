-- What a checkpoint writes before its tail, and its first flush.
use Rattle.std.proofs.Common.{◌≡◌, inl, ℕ}
use Rattle.std.specs.Prelude.{Some}
use Rattle.std.specs.FinMap as map
use Rattle.f2_model.specs.Tree.{Rows}
use Rattle.f2_model.specs.declared.bounds.Limits.{Limits}
use Rattle.f2_model.specs.declared.rows.Row.{Row}
use Rattle.f2_room_laws.specs.ProperTrees.{IsProperTree}
use Rattle.f2_change_laws.proofs.FreeWrites.{free_writes_keep}
use Rattle.f2_change_laws.proofs.Flushes.{flushes_keep}
use Rattle.f2_place_laws.proofs.LiveReads.{wrote_elsewhere, live_flushed}
use Rattle.f2_place_laws.proofs.LivePages.{keyed_pages_stand}
use Rattle.f2_place_laws.proofs.LiveNodes.{live_with_node}
use Rattle.f2_checkpoint_laws.specs.Writing.{CheckpointPagesStand, CheckpointNodesStand, CheckpointBlocksKeep, CheckpointFlushesKeep}

pub flush_keeps : CheckpointFlushesKeep
flush_keeps lists layout state places unwritten is = record {
  stored = flushes_keep lists layout state is.stored;
  none_pending = is.none_pending;
  proper = is.proper;
  live = live_flushed lists layout.base.ckpt.geom state.live places unwritten is.live;
}

pub block_keeps : CheckpointBlocksKeep
block_keeps lists new layout state places unwritten at content is free elsewhere within may wrote = record {
  stored = free_writes_keep lists new layout state at content is.stored within free may wrote;
  none_pending = is.none_pending;
  proper = is.proper;
  live = wrote_elsewhere lists state.live places unwritten layout.base.ckpt.geom is.live new at content elsewhere wrote;
}

-- each row of a proper tree stands under its own ino
own_key : (limits : Limits) (tree : Rows) → IsProperTree limits tree → (key : ℕ) (row : Row) → map.get tree key ≡ Some row → row.ino ≡ key
own_key limits tree proper key row there = proper.good.keyed key row there

pub page_stands : CheckpointPagesStand
page_stands lists new layout state places unwritten ino page at row content is of_tree was block free elsewhere within in_zone may written = record {
  stored = free_writes_keep lists new layout state at content is.stored within free may (inl written);
  none_pending = is.none_pending;
  proper = is.proper;
  live = keyed_pages_stand lists new layout.base.ckpt.geom state.live places unwritten ino page at row content (own_key _ state.live is.proper) is.live of_tree was elsewhere within in_zone block written;
}

pub node_stands : CheckpointNodesStand
node_stands lists new layout state places unwritten ino offset old node content is was keeps here free elsewhere within may written = record {
  stored = free_writes_keep lists new layout state node.at content is.stored within free may (inl written);
  none_pending = is.none_pending;
  proper = is.proper;
  live = live_with_node layout.base.ckpt.geom state.live places ino offset old node was keeps lists new unwritten content is.live elsewhere here within written;
}
