-- How a checkpoint goes on to its tail, write by write.
use Rattle.f2_disk.specs.Contents.{Contents}
use Rattle.f2_model.specs.State.{State}
use Rattle.f2_stored.specs.Places.{Places}
use Rattle.f2_stored.specs.Trees.{Unwritten}
use Rattle.f2_stored.specs.Layout.{Layout}
use Rattle.f2_stored.specs.Stored.{running}
use Rattle.f2_checkpoint_laws.specs.Writing.{IsCheckpointing}
use Rattle.f2_checkpoint_laws.specs.Going.{HasWritten, nothing, one_page, one_node, one_block, one_flush, CheckpointsMayBegin, CheckpointsGoOn}
use Rattle.f2_checkpoint_laws.proofs.Writes.{flush_keeps, block_keeps, page_stands, node_stands}

module _ (layout : Layout) (state : State) (from : Contents) (there : Places) (left : Unwritten) (begin : IsCheckpointing from layout state there left) where
  goes : (lists : Contents) (places : Places) (unwritten : Unwritten) → HasWritten layout state from there left lists places unwritten → IsCheckpointing lists layout state places unwritten
  goes _ _ _ nothing = begin
  goes _ _ _ (one_page lists new places unwritten ino page at row content before of_tree was block free elsewhere within in_zone may made) =
      page_stands lists new layout state places unwritten ino page at row content (goes lists places unwritten before) of_tree was block free elsewhere within in_zone may made
  goes _ _ _ (one_node lists new places unwritten ino offset old node content before was keeps here free elsewhere within may made) =
      node_stands lists new layout state places unwritten ino offset old node content (goes lists places unwritten before) was keeps here free elsewhere within may made
  goes _ _ _ (one_block lists new places unwritten at content before free elsewhere within may wrote) =
      block_keeps lists new layout state places unwritten at content (goes lists places unwritten before) free elsewhere within may wrote
  goes _ _ _ (one_flush lists places unwritten before) = flush_keeps lists layout state places unwritten (goes lists places unwritten before)

pub checkpoints_go_on : CheckpointsGoOn
checkpoints_go_on layout state from lists there places left unwritten begin written = goes layout state from there left begin lists places unwritten written

pub checkpoints_may_begin : CheckpointsMayBegin
checkpoints_may_begin lists layout state places unwritten kept = record { stored = running kept.packs kept.log; none_pending = kept.none_pending; proper = kept.proper; live = kept.live }
