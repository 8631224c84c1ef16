-- The live tree of a running volume at its places.
use Rattle.std.specs.Prelude.{◌≡◌, ℕ, ◌<◌, false, IsTrue, List, length, Option, Some, None, IsSome}
use Rattle.std.specs.FinMap as map
use Rattle.std.specs.FinSet as set
use Rattle.f2_format.specs.Offsets.{direct_of}
use Rattle.f2_format.specs.Geometry.{ImageGeometry, is_in_data}
use Rattle.f2_disk.specs.Contents.{Contents, IsWhole, IsWritten, last_of, flushed}
use Rattle.f2_model.specs.Tree.{Rows}
use Rattle.f2_model.specs.declared.rows.Row.{Row}
use Rattle.f2_image.specs.Images.{Image, block_at}
use Rattle.f2_image.specs.Packs.{Checkpoint}
use Rattle.f2_image_laws.specs.Chained.{contents_at}
use Rattle.f2_stored.specs.Changes.{Wrote}
use Rattle.f2_stored.specs.Kept.{IsElsewhere}
use Rattle.f2_stored.specs.Places.{NodeAt, Places, IsPageBlock}
use Rattle.f2_stored.specs.Trees.{IsTableOf, IsTreeAt, IsNodeHere, Unwritten, IsLiveAt}

-- nothing of a tree is left to be written
pub record IsWrittenOut (places : Places) (unwritten : Unwritten) : Type 0 where
  pub nodes : (ino offset : ℕ) (node : NodeAt) → map.get places.nodes (ino, offset) ≡ Some node → set.contains unwritten.nodes (ino, offset) ≡ false
  pub pages : (ino page at : ℕ) → map.get places.pages (ino, page) ≡ Some at → set.contains unwritten.pages (ino, page) ≡ false

-- an image has at the places of a tree what reads give there
pub record HasWhatReadsGive (lists : Contents) (image : Image) (places : Places) : Type 0 where
  pub nodes : (ino offset : ℕ) (node : NodeAt) → map.get places.nodes (ino, offset) ≡ Some node → block_at image node.at ≡ last_of (contents_at lists node.at)
  pub pages : (ino page at : ℕ) → map.get places.pages (ino, page) ≡ Some at → block_at image at ≡ last_of (contents_at lists at)

-- where nothing is left to be written, the tree stands at its places in an image whose table tells them
abbrev pub WrittenTreesStand : Type 0
WrittenTreesStand =
    (lists : Contents) (image : Image) (ckpt : Checkpoint) (tree : Rows) (places : Places) (unwritten : Unwritten) →
    IsLiveAt lists ckpt.geom tree places unwritten →
    IsWrittenOut places unwritten →
    HasWhatReadsGive lists image places →
    IsTableOf image ckpt places →
    IsTreeAt image ckpt tree places

-- writes elsewhere, made or failed, and flushes keep a live tree
abbrev pub WritesElsewhereKeep : Type 0
WritesElsewhereKeep =
    (lists new : Contents) (geom : ImageGeometry) (tree : Rows) (places : Places) (unwritten : Unwritten) (at : ℕ) (content : List ℕ) →
    IsLiveAt lists geom tree places unwritten →
    IsElsewhere places at →
    Wrote lists at content new →
    IsLiveAt new geom tree places unwritten

abbrev pub FlushesKeepLive : Type 0
FlushesKeepLive =
    (lists : Contents) (geom : ImageGeometry) (tree : Rows) (places : Places) (unwritten : Unwritten) →
    IsWhole (length lists) lists →
    IsLiveAt lists geom tree places unwritten →
    IsLiveAt (flushed lists) geom tree places unwritten

-- the node that tells the address of a page: its direct node, or the inode
abbrev pub teller_of : ℕ → ℕ
teller_of page = offset_or_inode (direct_of page)
  where
    offset_or_inode : Option ℕ → ℕ
    offset_or_inode None = 0
    offset_or_inode (Some offset) = offset

-- places after a page got an address, and after a node did
abbrev pub with_page : Places → ℕ → ℕ → ℕ → Places
with_page places ino page at = record places { pages = map.insert places.pages (ino, page) at }

abbrev pub with_node : Places → ℕ → ℕ → NodeAt → Places
with_node places ino offset node = record places { nodes = map.insert places.nodes (ino, offset) node }

-- what is left to be written after a page was: the node that tells its address; and after a node was
abbrev pub page_written : Unwritten → ℕ → ℕ → Unwritten
page_written unwritten ino page = record { nodes = set.insert unwritten.nodes (ino, teller_of page); pages = set.remove unwritten.pages (ino, page) }

abbrev pub node_written : Unwritten → ℕ → ℕ → Unwritten
node_written unwritten ino offset = record unwritten { nodes = set.remove unwritten.nodes (ino, offset) }

-- a page that was written to an address of its zone where nothing of the tree stands is at its place from then on, and the node that tells
-- its address is to be written; each row stands under its own ino
abbrev pub WrittenPagesStand : Type 0
WrittenPagesStand =
    (lists new : Contents) (geom : ImageGeometry) (tree : Rows) (places : Places) (unwritten : Unwritten) (ino page at : ℕ) (row : Row) (content : List ℕ) →
    ((key : ℕ) (other : Row) → map.get tree key ≡ Some other → other.ino ≡ key) →
    IsLiveAt lists geom tree places unwritten →
    map.get tree ino ≡ Some row →
    IsSome (map.get places.pages (ino, page)) →
    IsElsewhere places at →
    at < length lists →
    IsTrue (is_in_data geom at) →
    IsPageBlock places row page content →
    IsWritten at content lists new →
    IsLiveAt new geom tree (with_page places ino page at) (page_written unwritten ino page)

-- so is a node, whose block tells the places of what is below it; its nid stays
abbrev pub WrittenNodesStand : Type 0
WrittenNodesStand =
    (lists new : Contents) (geom : ImageGeometry) (tree : Rows) (places : Places) (unwritten : Unwritten) (ino offset : ℕ) (old node : NodeAt) (content : List ℕ) →
    IsLiveAt lists geom tree places unwritten →
    map.get places.nodes (ino, offset) ≡ Some old →
    node.nid ≡ old.nid →
    IsElsewhere places node.at →
    node.at < length lists →
    IsNodeHere geom tree places ino offset node content →
    IsWritten node.at content lists new →
    IsLiveAt new geom tree (with_node places ino offset node) (node_written unwritten ino offset)
