-- The way of a page through the blocks of its file's nodes.
use Rattle.std.specs.Prelude.{◌≡◌, ◌≢◌, ℕ, ◌<◌, IsTrue, List, Some}
use Rattle.std.specs.FinSet as set
use Rattle.f2_format.specs.Offsets.{page_limit}
use Rattle.f2_image.specs.Images.{Image}
use Rattle.f2_image.specs.Packs.{Checkpoint}
use Rattle.f2_image.specs.Nodes.{node, page_address}
use Rattle.f2_index.specs.Paged.{nodes_of_pages}
use Rattle.f2_blocks.specs.Blocks.{Numbered, ReadsAs, address_of, nid_of}
use Rattle.f2_blocks.specs.declared.rows.NodeRow.{NodeRow}

-- each node below the inode that a file's pages need is in an image under its nid, in a block that reads as the node
abbrev pub AreNodesIn : Image → Checkpoint → NodeRow → Numbered → Numbered → Type 0
AreNodesIn image ckpt row pages nids =
    (offset : ℕ) → offset ≢ 0 → IsTrue (set.contains (nodes_of_pages pages) offset)
    → (block : List ℕ) × (node image ckpt (nid_of pages nids offset) ≡ Some block) × ReadsAs row pages nids offset block

-- from the inode of such a file the way of each page ends at the page's address, or at 0 where the file hasn't the page
abbrev pub RoutesEndAtAddresses : Type 0
RoutesEndAtAddresses =
    (image : Image) (ckpt : Checkpoint) (row : NodeRow) (pages nids : Numbered) (inode : List ℕ)
    → ReadsAs row pages nids 0 inode → AreNodesIn image ckpt row pages nids
    → (page : ℕ) → page < page_limit → page_address image ckpt inode page ≡ address_of pages page
