-- The mark of a file, drawn: all that a running volume keeps.
use Rattle.std.specs.Prelude.{◌≡◌, ◌≢◌, ◌⊎◌, ℕ, ◌*◌, ◌≤◌, false, List, [], ◌∷◌, ◌++◌, Some, None}
use Rattle.std.specs.FinMap as map
use Rattle.std.specs.FinSet as set
use Rattle.f2_format.specs.Geometry.{data_third}
use Rattle.f2_disk.specs.Contents.{Contents}
use Rattle.f2_model.specs.State.{State, InNodes, Progress, InFsync}
use Rattle.f2_model.specs.Goes.{mark_drawn}
use Rattle.f2_model.specs.declared.rows.Row.{Row}
use Rattle.f2_image_laws.specs.Rolled.{image_limits}
use Rattle.f2_room_laws.specs.Fitting.{AreFitting}
use Rattle.f2_live_laws.specs.Marking.{IsMarkOf}
use Rattle.f2_stored.specs.Places.{Places}
use Rattle.f2_stored.specs.Trees.{Unwritten}
use Rattle.f2_stored.specs.Layout.{Owners, Layout}
use Rattle.f2_stored.specs.Changes.{with_drawn}
use Rattle.f2_stored.specs.Kept.{IsBlockFor}
use Rattle.f2_stored.specs.Whole.{IsKeptWhole}
use Rattle.f2_event_laws.specs.Marks.{OwnsPages}
use Rattle.f2_event_laws.specs.WholeNodes.{MayComeNext}

-- an owner of an address is the page of a file that stands there
pub record IsOwnPage (places : Places) (ino at : ℕ) (owner : ℕ × ℕ) : Type 0 where
  pub page : ℕ
  pub there : map.get places.pages (ino, page) ≡ Some at
  pub some : at ≢ 0
  pub is : owner ≡ (ino, page)

-- the owners of a file's pages join those that were known, and no other one does
pub record JoinOwners (places : Places) (ino : ℕ) (owners now : Owners) : Type 0 where
  pub owns : OwnsPages places ino owners now
  pub only : (at : ℕ) (owner : ℕ × ℕ) → map.get now at ≡ Some owner → (map.get owners at ≡ Some owner) ⊎ IsOwnPage places ino at owner

-- owners that do
pub record HasJoined (places : Places) (ino : ℕ) (owners : Owners) : Type 0 where
  pub now : Owners
  pub join : JoinOwners places ino owners now

-- once its pages are flushed, the owners of a file's pages may join; a page that stood in the block of another file's mark would break it
abbrev pub OwnersMayJoin : Type 0
OwnersMayJoin =
    (lists : Contents) (layout : Layout) (state : State) (places : Places) (unwritten : Unwritten) (seat ino : ℕ) (progress : Progress) →
    IsKeptWhole lists layout state places unwritten →
    map.get state.flights seat ≡ Some (InFsync ino progress) →
    progress.part ≡ InNodes →
    HasJoined places ino layout.owners

-- an fsync draws the next position for the marked inode of its file, of which nothing is dirty any more; a volume that left the dentry mark out
-- of a file that the base hasn't would break it
abbrev pub DrawnMarksKeepWhole : Type 0
DrawnMarksKeepWhole =
    (lists : Contents) (layout : Layout) (state : State) (places : Places) (unwritten : Unwritten) (seat ino : ℕ) (progress : Progress) (row : Row) (block : List ℕ) (owners : Owners) →
    IsKeptWhole lists layout state places unwritten →
    map.get state.flights seat ≡ Some (InFsync ino progress) →
    progress.part ≡ InNodes →
    progress.slot ≡ None →
    ((offset : ℕ) → set.contains state.dirty_nodes (ino, offset) ≡ false) →
    map.get state.live ino ≡ Some row →
    MayComeNext layout state places block →
    IsMarkOf state places ino row block →
    IsBlockFor state places ino 0 block →
    JoinOwners places ino layout.owners owners →
    map.len owners ≤ 2 * data_third layout.base.ckpt.geom →
    AreFitting (image_limits layout.base.ckpt.geom) (record state { marks = state.marks ++ record { ino = ino; row = row } ∷ [] }) →
    IsKeptWhole lists (with_drawn layout block owners) (mark_drawn state seat ino row).after places unwritten
