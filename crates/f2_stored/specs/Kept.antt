-- What a running volume keeps between two checkpoints, its live tree and its fsyncs in flight included.
use Rattle.std.specs.Prelude.{◌≡◌, ◌≢◌, ◌⊎◌, ℕ, ◌+◌, ◌<◌, true, false, List, [], ◌∷◌, length, slice_index_or, Some, None, MatchOption}
use Rattle.std.specs.FinMap as map
use Rattle.std.specs.FinSet as set
use Rattle.f2_format.specs.Offsets.{direct_of}
use Rattle.f2_disk.specs.Contents.{Contents, last_of}
use Rattle.f2_model.specs.State.{State, Part, InPages, InNodes, Marked, Drawn, DrawnNode, DrawnMark, Slot, Progress, InFsync}
use Rattle.f2_model.specs.declared.rows.Row.{Row}
use Rattle.f2_model.specs.declared.rows.Kind.TheVariants.{Regular}
use Rattle.f2_image.specs.Reached.{IsDirect}
use Rattle.f2_image_laws.specs.Chained.{contents_at}
use Rattle.f2_image_laws.specs.Rolled.{image_limits}
use Rattle.f2_room_laws.specs.ProperTrees.{IsProperTree}
use Rattle.f2_stored.specs.Places.{NodeAt, Places, IsNodeBlock, IsInodeOf}
use Rattle.f2_stored.specs.Trees.{Unwritten, IsLiveAt}
use Rattle.f2_stored.specs.Layout.{Open, Written, Position, Layout}
use Rattle.f2_stored.specs.Marks.{marks_within}
use Rattle.f2_stored.specs.Ties.{LogTellsLive}
use Rattle.f2_stored.specs.Changes.{no_position}
use Rattle.f2_stored.specs.Stored.{KeepsPacks, KeepsLog}

-- the position at a place of the log
abbrev pub position_at : Layout → ℕ → Position
position_at layout place = slice_index_or layout.log place no_position

-- no node and no page of a tree stands at an address
pub record IsElsewhere (places : Places) (at : ℕ) : Type 0 where
  pub nodes : (ino offset : ℕ) (node : NodeAt) → map.get places.nodes (ino, offset) ≡ Some node → node.at ≢ at
  pub pages : (ino page other : ℕ) → map.get places.pages (ino, page) ≡ Some other → other ≢ at

-- a block is that of a node of a file, or of its inode, by the places that are known
pub record IsBlockFor (state : State) (places : Places) (ino offset : ℕ) (block : List ℕ) : Type 0 where
  pub node : NodeAt
  pub there : map.get places.nodes (ino, offset) ≡ Some node
  pub own : IsNodeBlock places ino offset node block
  pub inode : offset ≡ 0 → (row : Row) → map.get state.live ino ≡ Some row → IsInodeOf places row block

-- what was drawn: a direct node, which isn't dirty since, or the inode
abbrev pub IsDrawnFor : State → Places → ℕ → Drawn → List ℕ → Type 0
IsDrawnFor state places ino (DrawnNode offset) block = IsDirect offset × (set.contains state.dirty_nodes (ino, offset) ≡ false) × IsBlockFor state places ino offset block
IsDrawnFor state places ino DrawnMark block = IsBlockFor state places ino 0 block

-- an fsync's slot is an open position of the log, for what was drawn
pub record IsSlotOf (layout : Layout) (state : State) (places : Places) (ino : ℕ) (slot : Slot) : Type 0 where
  pub small : slot.position < length layout.log
  pub is_open : (position_at layout slot.position).fate ≡ Open
  pub drawn : IsDrawnFor state places ino slot.drawn (position_at layout slot.position).logged.block

-- the pages of a file are flushed where they stand, and none is dirty
pub record AreFlushed (lists : Contents) (state : State) (places : Places) (ino : ℕ) : Type 0 where
  pub clean : (page : ℕ) → set.contains state.dirty_pages (ino, page) ≡ false
  pub flushed : (page at : ℕ) → map.get places.pages (ino, page) ≡ Some at → contents_at lists at ≡ last_of (contents_at lists at) ∷ []

-- an fsync's mark is among the marks up to its position, which is its slot as long as that is open, and written from then on
pub record HasMarkAt (layout : Layout) (progress : Progress) : Type 0 where
  pub small : progress.position < length layout.log
  pub counted : progress.place < marks_within layout (progress.position + 1)
  pub own : MatchOption progress.slot ((position_at layout progress.position).fate ≡ Written) (λ slot. slot.position ≡ progress.position)

-- how far an fsync has come on the disk
abbrev pub PartStands : Contents → Layout → State → Places → ℕ → Progress → Part → Type 0
PartStands lists layout state places ino progress InPages = progress.slot ≡ None
PartStands lists layout state places ino progress InNodes = AreFlushed lists state places ino
PartStands lists layout state places ino progress Marked = AreFlushed lists state places ino × HasMarkAt layout progress

pub record FsyncStands (lists : Contents) (layout : Layout) (state : State) (places : Places) (ino : ℕ) (progress : Progress) : Type 0 where
  pub file : (row : Row) × (map.get state.live ino ≡ Some row) × (row.kind ≡ Regular)
  pub slot : MatchOption progress.slot (Unit {0}) (IsSlotOf layout state places ino)
  pub part : PartStands lists layout state places ino progress progress.part

-- a position is some fsync's slot
pub record IsSomeSlot (state : State) (place : ℕ) : Type 0 where
  pub seat : ℕ
  pub ino : ℕ
  pub progress : Progress
  pub slot : Slot
  pub in_flight : map.get state.flights seat ≡ Some (InFsync ino progress)
  pub is_open : progress.slot ≡ Some slot
  pub at_place : slot.position ≡ place

-- positions, slots and what is dirty go together
pub record AreTied (layout : Layout) (state : State) (places : Places) (unwritten : Unwritten) : Type 0 where
  -- what is dirty in a file is still to be written, nodes that are dirty are direct ones, and that of a dirty page is dirty
  pub pages : (ino page : ℕ) (row : Row) → map.get state.live ino ≡ Some row → row.kind ≡ Regular → set.contains unwritten.pages (ino, page) ≡ set.contains state.dirty_pages (ino, page)
  pub nodes : (ino offset : ℕ) → set.contains state.dirty_nodes (ino, offset) ≡ true → set.contains unwritten.nodes (ino, offset) ≡ true
  pub direct : (ino offset : ℕ) → set.contains state.dirty_nodes (ino, offset) ≡ true → IsDirect offset
  pub covered : (ino page offset : ℕ) → set.contains state.dirty_pages (ino, page) ≡ true → direct_of page ≡ Some offset → set.contains state.dirty_nodes (ino, offset) ≡ true
  -- each position is written, or it is the slot of one fsync
  pub count : state.node_writes ≡ length layout.log
  pub fates : (place : ℕ) → place < length layout.log → ((position_at layout place).fate ≡ Written) ⊎ IsSomeSlot state place
  pub one_slot : (place : ℕ) (a b : IsSomeSlot state place) → a.seat ≡ b.seat
  pub one_file : (seat other ino : ℕ) (a b : Progress) → map.get state.flights seat ≡ Some (InFsync ino a) → map.get state.flights other ≡ Some (InFsync ino b) → seat ≡ other
  -- nothing of the live tree stands at an open position or where the next one will be
  pub open_apart : (place : ℕ) → place < length layout.log → (position_at layout place).fate ≡ Open → IsElsewhere places (position_at layout place).logged.at
  pub next_apart : layout.next ≢ 0 → IsElsewhere places layout.next

-- a disk keeps a state between two checkpoints: base, log and marks, the live tree at its places, and each fsync in flight
pub record IsKept (lists : Contents) (layout : Layout) (state : State) (places : Places) (unwritten : Unwritten) : Type 0 where
  pub packs : KeepsPacks lists layout state
  pub log : KeepsLog lists layout state
  pub none_pending : layout.pending ≡ None
  pub proper : IsProperTree (image_limits layout.base.ckpt.geom) state.live
  pub live : IsLiveAt lists layout.base.ckpt.geom state.live places unwritten
  pub told : LogTellsLive layout state places
  pub tied : AreTied layout state places unwritten
  pub fsyncs : (seat ino : ℕ) (progress : Progress) → map.get state.flights seat ≡ Some (InFsync ino progress) → FsyncStands lists layout state places ino progress
