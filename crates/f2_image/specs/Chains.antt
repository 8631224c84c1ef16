-- The node log of an image and the marks in it (find_fsync_dnodes and do_recover_data of recovery.c).
--
-- The cases of recovery.c, and what is made of them here:
-- - A block of another version (is_recoverable_dnode) isn't of the log: the log ends before it. So it does at the next address 0.
-- - A next address that no block of the log can have: the kernel ends there, here the image is refused.
-- - A log that doesn't end, which is a loop: refused, there and here.
-- - A marked inode of a file that the base has brings its size and pages. Its name and its parent aren't looked at: the file's names
--   are the base's.
-- - A marked inode of a file that the base hasn't brings its name and parent too where it has the dentry mark. Without that mark the
--   kernel passes over it, here the image is refused. Where the file is marked again, its name is that of its last mark.
-- - An unmarked inode: not taken; only a marked one tells a size.
-- - A direct node, whatever its mark: taken where a marked inode of its file stands after it. The last one up to a mark has the mark's
--   addresses, else the base's does. After a file's last marked inode nothing of it is taken (fsync_inode_entry.blkaddr).
-- - A marked directory: the kernel takes it, here the image is refused.
-- - Indirect nodes: not taken. A mark's direct nodes are found by their offsets, so they aren't needed.
-- - Attributes, inline data, quotas, orphans and compression aren't part of this format.
use Rattle.std.specs.Prelude.{◌≡◌, ℕ, zero, suc, ◌+◌, ◌<◌, ◌==◌, Bool, ◌&&◌, if◌then◌else◌, List, [], ◌∷◌, length, take, filter, slice_index_or, Option, Some, None}
use Rattle.std.specs.List.{AllZip, range_with_len}
use Rattle.std.specs.FinMap as map
use Rattle.f2_format.specs.Offsets.{page_limit, direct_of}
use Rattle.f2_format.specs.Geometry.{node_third}
use Rattle.f2_format.specs.Footer.{footer_ino, footer_offset, footer_version, footer_next, has_fsync_mark}
use Rattle.f2_format.specs.Inode.{inode_of}
use Rattle.f2_model.specs.Content.{PageMap}
use Rattle.f2_model.specs.Tree.{Rows, names_of}
use Rattle.f2_model.specs.State.{Mark}
use Rattle.f2_model.specs.declared.rows.Row.{Row}
use Rattle.f2_image.specs.Images.{Image, block_at}
use Rattle.f2_image.specs.Packs.{Checkpoint, recovery_version}
use Rattle.f2_image.specs.Nodes.{node, block_there, direct_node, address_in}
use Rattle.f2_image.specs.Bases.{inode_kind}

-- a block of the node log, and its address
pub record Logged : Type 0 where
  pub at : ℕ
  pub block : List ℕ

-- at most so many blocks from an address on: each carries the version, names the address of the next, and 0 ends them
abbrev pub chain_from : Image → ℕ → ℕ → ℕ → List Logged
chain_from image version zero at = []
chain_from image version (suc most) at =
    if at == 0 then []
    else if footer_version (block_at image at) == version
    then record { at = at; block = block_at image at } ∷ chain_from image version most (footer_next (block_at image at))
    else []

-- the chain of an image; where it goes on after a third of the node zone, one block more is told
unfoldable pub chain : Image → Checkpoint → List Logged
chain image ckpt = chain_from image (recovery_version ckpt) (node_third ckpt.geom + 1) ckpt.head.log_start

-- the block at a place of a chain
abbrev pub no_block : Logged
no_block = record { at = 0; block = [] }

abbrev pub block_in : List Logged → ℕ → List ℕ
block_in log place = (slice_index_or log place no_block).block

-- an inode with the fsync mark
abbrev pub is_marked : List ℕ → Bool
is_marked block = (footer_offset block == 0) && has_fsync_mark block

-- the places of the marked blocks, rising
abbrev pub marked_places : List Logged → List ℕ
marked_places log = filter (λ place. is_marked (block_in log place)) (range_with_len 0 (length log))

-- the last place before another one whose block is this node of a file
abbrev pub is_node_of : List ℕ → ℕ → ℕ → Bool
is_node_of block ino offset = (footer_ino block == ino) && (footer_offset block == offset)

abbrev pub last_before : List Logged → ℕ → ℕ → ℕ → Option (List ℕ)
last_before log zero ino offset = None
last_before log (suc place) ino offset = if is_node_of (block_in log place) ino offset then Some (block_in log place) else last_before log place ino offset

-- the direct node of a marked row that has a page's address: its last block up to the mark, else the base's
abbrev pub or_below : Option (List ℕ) → Option (List ℕ) → Option (List ℕ)
or_below None base = base
or_below (Some block) base = Some block

abbrev pub base_direct : Image → Checkpoint → Option (List ℕ) → ℕ → Option (List ℕ)
base_direct image ckpt None page = None
base_direct image ckpt (Some inode) page = direct_node image ckpt inode page

abbrev pub logged_direct : List Logged → ℕ → ℕ → Option ℕ → Option (List ℕ)
logged_direct log place ino None = None
logged_direct log place ino (Some offset) = last_before log (place + 1) ino offset

abbrev pub marked_direct : Image → Checkpoint → List Logged → ℕ → ℕ → Option (List ℕ)
marked_direct image ckpt log place page =
    let ino = footer_ino (block_in log place) in
    or_below (logged_direct log place ino (direct_of page)) (base_direct image ckpt (node image ckpt ino) page)

-- the address of a page of a marked row
abbrev pub marked_address : Image → Checkpoint → List Logged → ℕ → ℕ → ℕ
marked_address image ckpt log place page = address_in (block_in log place) (marked_direct image ckpt log place page) page

-- the pages of a marked row
pub record AreMarkedPages (image : Image) (ckpt : Checkpoint) (log : List Logged) (place : ℕ) (pages : PageMap) : Type 0 where
  pub within : (page : ℕ) (bytes : List ℕ) → map.get pages page ≡ Some bytes → page < page_limit
  pub blocks : (page : ℕ) → page < page_limit → map.get pages page ≡ block_there image (marked_address image ckpt log place page)

-- the names of a marked row: those of the base where its ino is there, else the one that its inode tells. Where they are the base's, so
-- are the parent and the name that the row carries, which a root's names don't tell
abbrev pub IsNamed : Rows → List ℕ → Row → Option Row → Type 0
IsNamed base inode row (Some old) = (names_of row ≡ names_of old) × (row.parent ≡ old.parent) × (row.name ≡ old.name)
IsNamed base inode row None = names_of row ≡ ((inode_of inode).parent, take (inode_of inode).name_length (inode_of inode).name) ∷ []

-- the mark whose block stands at this place
pub record IsMark (image : Image) (ckpt : Checkpoint) (base : Rows) (log : List Logged) (place : ℕ) (mark : Mark) : Type 0 where
  pub ino : mark.ino ≡ footer_ino (block_in log place)
  pub row_ino : mark.row.ino ≡ mark.ino
  pub kind : inode_kind (block_in log place) ≡ Some mark.row.kind
  pub size : mark.row.size ≡ (inode_of (block_in log place)).size
  pub pages : AreMarkedPages image ckpt log place mark.row.pages
  pub named : IsNamed base (block_in log place) mark.row (map.get base mark.ino)

-- the marks of an image in the order of their blocks
abbrev pub AreMarks : Image → Checkpoint → Rows → List Mark → Type 0
AreMarks image ckpt base marks = AllZip (IsMark image ckpt base (chain image ckpt)) (marked_places (chain image ckpt)) marks
