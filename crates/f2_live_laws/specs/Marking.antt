-- The mark of a file, from what a volume knows of the file.
use Rattle.std.specs.Prelude.{◌≡◌, ℕ, ◌≤◌, IsTrue, false, List, [], ◌∷◌, length, Some, is_none}
use Rattle.std.specs.FinMap as map
use Rattle.std.specs.FinSet as set
use Rattle.f2_format.specs.Offsets.{direct_of}
use Rattle.f2_format.specs.Footer.{footer_ino, has_dentry_mark}
use Rattle.f2_format.specs.Inode.{SIZE_LIMIT}
use Rattle.f2_disk.specs.Contents.{Contents, last_of}
use Rattle.f2_model.specs.State.{State}
use Rattle.f2_model.specs.declared.rows.Row.{Row}
use Rattle.f2_model.specs.declared.rows.Kind.TheVariants.{Regular}
use Rattle.f2_image.specs.Chains.{is_marked, IsNamed}
use Rattle.f2_image_laws.specs.Chained.{contents_at}
use Rattle.f2_stored.specs.Layout.{Owners, Layout}
use Rattle.f2_stored.specs.Places.{Places, IsInodeOf}
use Rattle.f2_stored.specs.Trees.{Unwritten, IsLiveAt}
use Rattle.f2_stored.specs.Ties.{LogTellsLive}
use Rattle.f2_stored.specs.Marks.{HoldsMark}
use Rattle.f2_stored.specs.Changes.{with_drawn}
use Rattle.f2_stored.specs.Stored.{KeepsPacks, KeepsLog}

-- a file of the live tree may be marked: it lost no direct node since the base, none of its direct nodes is dirty, and each of its pages was
-- flushed where it stands
pub record MayBeMarked (lists : Contents) (state : State) (places : Places) (unwritten : Unwritten) (ino : ℕ) (row : Row) : Type 0 where
  pub there : map.get state.live ino ≡ Some row
  pub own : row.ino ≡ ino
  pub regular : row.kind ≡ Regular
  pub size : row.size ≤ SIZE_LIMIT
  pub whole : set.contains state.shrunk ino ≡ false
  pub clean : (page offset : ℕ) → direct_of page ≡ Some offset → set.contains state.dirty_nodes (ino, offset) ≡ false
  pub written : (page at : ℕ) → map.get places.pages (ino, page) ≡ Some at → set.contains unwritten.pages (ino, page) ≡ false
  pub flushed : (page at : ℕ) → map.get places.pages (ino, page) ≡ Some at → contents_at lists at ≡ last_of (contents_at lists at) ∷ []

-- a block is the marked inode of such a file: it tells the row, its name is the base's or its own, and the dentry mark stands exactly where
-- the base hasn't the file
pub record IsMarkOf (state : State) (places : Places) (ino : ℕ) (row : Row) (block : List ℕ) : Type 0 where
  pub marked : IsTrue (is_marked block)
  pub footer_ino : footer_ino block ≡ ino
  pub inode : IsInodeOf places row block
  pub named : IsNamed state.base block row (map.get state.base ino)
  pub dentry : has_dentry_mark block ≡ is_none (map.get state.base ino)

-- drawn next, the block holds the file's mark
abbrev pub LiveFilesGiveMarks : Type 0
LiveFilesGiveMarks =
    (lists : Contents) (layout : Layout) (state : State) (places : Places) (unwritten : Unwritten) (ino : ℕ) (row : Row) (block : List ℕ) (owners : Owners) →
    KeepsPacks lists layout state →
    KeepsLog lists layout state →
    IsLiveAt lists layout.base.ckpt.geom state.live places unwritten →
    LogTellsLive layout state places →
    MayBeMarked lists state places unwritten ino row →
    IsMarkOf state places ino row block →
    ((page at : ℕ) → map.get places.pages (ino, page) ≡ Some at → map.get owners at ≡ Some (ino, page)) →
    HoldsMark lists (with_drawn layout block owners) state.base (length layout.log) (record { ino = ino; row = row })
