-- How a checkpoint goes on to its tail, write by write.
use Rattle.std.specs.Prelude.{◌≡◌, ℕ, ◌<◌, IsTrue, List, length, Some, IsSome}
use Rattle.std.specs.FinMap as map
use Rattle.f2_format.specs.Geometry.{is_in_data}
use Rattle.f2_disk.specs.Contents.{Contents, IsWritten, flushed}
use Rattle.f2_model.specs.State.{State}
use Rattle.f2_model.specs.declared.rows.Row.{Row}
use Rattle.f2_place_laws.specs.Living.{with_page, with_node, page_written, node_written}
use Rattle.f2_stored.specs.Places.{NodeAt, Places, IsPageBlock}
use Rattle.f2_stored.specs.Trees.{IsNodeHere, Unwritten}
use Rattle.f2_stored.specs.Layout.{Layout}
use Rattle.f2_stored.specs.Changes.{Wrote, IsFree, MayBeWritten}
use Rattle.f2_stored.specs.Kept.{IsElsewhere, IsKept}
use Rattle.f2_checkpoint_laws.specs.Writing.{IsCheckpointing}

-- a running volume may begin one
abbrev pub CheckpointsMayBegin : Type 0
CheckpointsMayBegin = (lists : Contents) (layout : Layout) (state : State) (places : Places) (unwritten : Unwritten) → IsKept lists layout state places unwritten → IsCheckpointing lists layout state places unwritten

-- what a disk holds, where the live tree stands and what is to be written of it, after any number of a checkpoint's writes and flushes, each
-- to a free address at which nothing of the tree stands: pages and nodes that were written, and other blocks, also where their write failed
pub data HasWritten (layout : Layout) (state : State) (from : Contents) (there : Places) (left : Unwritten) : Contents → Places → Unwritten → Type 0 where
  nothing : HasWritten layout state from there left from there left
  one_page : (lists new : Contents) (places : Places) (unwritten : Unwritten) (ino page at : ℕ) (row : Row) (content : List ℕ) → HasWritten layout state from there left lists places unwritten
      → map.get state.live ino ≡ Some row → IsSome (map.get places.pages (ino, page)) → IsPageBlock places row page content → IsFree layout at → IsElsewhere places at → at < length lists
      → IsTrue (is_in_data layout.base.ckpt.geom at) → MayBeWritten layout at content → IsWritten at content lists new
      → HasWritten layout state from there left new (with_page places ino page at) (page_written unwritten ino page)
  one_node : (lists new : Contents) (places : Places) (unwritten : Unwritten) (ino offset : ℕ) (old node : NodeAt) (content : List ℕ) → HasWritten layout state from there left lists places unwritten
      → map.get places.nodes (ino, offset) ≡ Some old → node.nid ≡ old.nid → IsNodeHere layout.base.ckpt.geom state.live places ino offset node content → IsFree layout node.at → IsElsewhere places node.at
      → node.at < length lists → MayBeWritten layout node.at content → IsWritten node.at content lists new
      → HasWritten layout state from there left new (with_node places ino offset node) (node_written unwritten ino offset)
  one_block : (lists new : Contents) (places : Places) (unwritten : Unwritten) (at : ℕ) (content : List ℕ) → HasWritten layout state from there left lists places unwritten
      → IsFree layout at → IsElsewhere places at → at < length lists → MayBeWritten layout at content → Wrote lists at content new → HasWritten layout state from there left new places unwritten
  one_flush : (lists : Contents) (places : Places) (unwritten : Unwritten) → HasWritten layout state from there left lists places unwritten → HasWritten layout state from there left (flushed lists) places unwritten

-- where a checkpoint is being written it is so after each of them
abbrev pub CheckpointsGoOn : Type 0
CheckpointsGoOn =
    (layout : Layout) (state : State) (from lists : Contents) (there places : Places) (left unwritten : Unwritten) →
    IsCheckpointing from layout state there left →
    HasWritten layout state from there left lists places unwritten →
    IsCheckpointing lists layout state places unwritten
