-- The mark of a file, drawn.
use Rattle.std.specs.Prelude.{◌≡◌, ℕ, ◌*◌, ◌≤◌, false, List, [], ◌∷◌, ◌++◌, Some, None}
use Rattle.std.specs.FinMap as map
use Rattle.std.specs.FinSet as set
use Rattle.f2_format.specs.Geometry.{data_third}
use Rattle.f2_format.specs.Footer.{footer_next}
use Rattle.f2_format.specs.Inode.{SIZE_LIMIT}
use Rattle.f2_disk.specs.Contents.{Contents}
use Rattle.f2_model.specs.State.{State, InNodes, Progress, InFsync}
use Rattle.f2_model.specs.Goes.{mark_drawn}
use Rattle.f2_model.specs.declared.rows.Row.{Row}
use Rattle.f2_image_laws.specs.Rolled.{image_limits}
use Rattle.f2_room_laws.specs.Fitting.{AreFitting}
use Rattle.f2_change_laws.specs.Drawing.{MayBeDrawn}
use Rattle.f2_live_laws.specs.Marking.{IsMarkOf}
use Rattle.f2_stored.specs.Places.{Places}
use Rattle.f2_stored.specs.Trees.{Unwritten}
use Rattle.f2_stored.specs.Layout.{Owners, Layout}
use Rattle.f2_stored.specs.Numbers.{MayCount}
use Rattle.f2_stored.specs.Changes.{with_drawn}
use Rattle.f2_stored.specs.Kept.{IsBlockFor, IsKept}
use Rattle.f2_event_laws.specs.Nodes.{IsNextElsewhere}

-- owners are kept, and those of a file's pages are there
pub record OwnsPages (places : Places) (ino : ℕ) (owners now : Owners) : Type 0 where
  pub kept : (at : ℕ) (owner : ℕ × ℕ) → map.get owners at ≡ Some owner → map.get now at ≡ Some owner
  pub own : (page at : ℕ) → map.get places.pages (ino, page) ≡ Some at → map.get now at ≡ Some (ino, page)

-- an fsync draws the next position for the marked inode of its file, of which nothing is dirty any more: the file's row joins the marks, and
-- all that the log has of the file counts from then on
abbrev pub DrawnMarksKeep : Type 0
DrawnMarksKeep =
    (lists : Contents) (layout : Layout) (state : State) (places : Places) (unwritten : Unwritten) (seat ino : ℕ) (progress : Progress) (row : Row) (block : List ℕ) (owners : Owners) →
    IsKept lists layout state places unwritten →
    map.get state.flights seat ≡ Some (InFsync ino progress) →
    progress.part ≡ InNodes →
    progress.slot ≡ None →
    ((offset : ℕ) → set.contains state.dirty_nodes (ino, offset) ≡ false) →
    set.contains state.shrunk ino ≡ false →
    map.get state.live ino ≡ Some row →
    row.size ≤ SIZE_LIMIT →
    MayBeDrawn layout block →
    MayCount layout ino →
    IsNextElsewhere places (footer_next block) →
    IsMarkOf state places ino row block →
    IsBlockFor state places ino 0 block →
    OwnsPages places ino layout.owners owners →
    map.len owners ≤ 2 * data_third layout.base.ckpt.geom →
    AreFitting (image_limits layout.base.ckpt.geom) (record state { marks = state.marks ++ record { ino = ino; row = row } ∷ [] }) →
    IsKept lists (with_drawn layout block owners) (mark_drawn state seat ino row).after places unwritten
