-- The pages of a file, written and flushed: all that a running volume keeps.
use Rattle.std.specs.Prelude.{◌≡◌, ℕ, IsTrue, true, false, List, Some, None}
use Rattle.std.specs.FinMap as map
use Rattle.std.specs.FinSet as set
use Rattle.f2_format.specs.Geometry.{is_in_data}
use Rattle.f2_disk.specs.Contents.{Contents, IsBlock, IsWritten, flushed}
use Rattle.f2_model.specs.State.{State, InPages, Progress, InFsync, in_nodes}
use Rattle.f2_model.specs.Goes.{page_written, with_progress}
use Rattle.f2_model.specs.declared.rows.Row.{Row}
use Rattle.f2_place_laws.specs.Living as living
use Rattle.f2_place_laws.specs.Living.{with_page}
use Rattle.f2_stored.specs.Places.{Places}
use Rattle.f2_stored.specs.Trees.{Unwritten}
use Rattle.f2_stored.specs.Layout.{Layout}
use Rattle.f2_stored.specs.Changes.{IsFree}
use Rattle.f2_stored.specs.Kept.{IsElsewhere}
use Rattle.f2_stored.specs.Whole.{IsKeptWhole}

-- a dirty page is written to a free address of the data zone, by an fsync or the flusher; a volume that didn't write the node anew which tells
-- the page's address would break it
abbrev pub WrittenPagesKeepWhole : Type 0
WrittenPagesKeepWhole =
    (lists new : Contents) (layout : Layout) (state : State) (places : Places) (unwritten : Unwritten) (ino page at : ℕ) (row : Row) (content : List ℕ) →
    IsKeptWhole lists layout state places unwritten →
    set.contains state.dirty_pages (ino, page) ≡ true →
    map.get state.live ino ≡ Some row →
    map.get row.pages page ≡ Some content →
    IsFree layout at →
    IsElsewhere places at →
    IsTrue (is_in_data layout.base.ckpt.geom at) →
    IsBlock content →
    IsWritten at content lists new →
    IsKeptWhole new layout (page_written state ino page) (with_page places ino page at) (living.page_written unwritten ino page)

-- the first flush of an fsync whose file has no dirty page; a volume that went on to the nodes without the flush would break it
abbrev pub FlushedPagesKeepWhole : Type 0
FlushedPagesKeepWhole =
    (lists : Contents) (layout : Layout) (state : State) (places : Places) (unwritten : Unwritten) (seat ino : ℕ) (progress : Progress) →
    IsKeptWhole lists layout state places unwritten →
    map.get state.flights seat ≡ Some (InFsync ino progress) →
    progress.part ≡ InPages →
    ((page : ℕ) → set.contains state.dirty_pages (ino, page) ≡ false) →
    IsKeptWhole (flushed lists) layout (with_progress state seat ino (in_nodes None)) places unwritten
