-- The nodes of an image by their nids, and the way from an inode to the address of a page (f2fs_get_node_info and
-- f2fs_get_dnode_of_data of node.c).
use Rattle.std.specs.Prelude.{ℕ, ◌-◌, ◌==◌, nat_lt, nat_le, if◌then◌else◌, ◌||◌, List, [], ◌∷◌, length, take, slice_index_or, Option, Some, None}
use Rattle.std.specs.Option.{unwrap_or}
use Rattle.f2_format.specs.Offsets.{inode_pages, direct_slot, slots_of_page}
use Rattle.f2_format.specs.Geometry.{nat_address, nid_limit}
use Rattle.f2_format.specs.Nat.{NodePlace, nat_entry, nat_block_of, nat_place_of, is_second_copy}
use Rattle.f2_format.specs.Journal.{journal_find}
use Rattle.f2_format.specs.Inode.{inode_of, node_word}
use Rattle.f2_image.specs.Images.{Image, block_at}
use Rattle.f2_image.specs.Packs.{Checkpoint, journal}

-- the copy of a block of the node address table that counts
abbrev pub nat_copy : Image → Checkpoint → ℕ → List ℕ
nat_copy image ckpt block = block_at image (nat_address ckpt.geom block (is_second_copy ckpt.head.bitmap block))

-- what the table says of a nid: the journal's first entry, else the entry in the copy that counts
unfoldable pub place_of_nid : Image → Checkpoint → ℕ → NodePlace
place_of_nid image ckpt nid = unwrap_or (journal_find (journal ckpt) nid) (nat_entry (nat_copy image ckpt (nat_block_of nid)) (nat_place_of nid))

-- the address of a node; 0 where the nid has none, for the nid 0, which means no node, and past the table
abbrev pub node_address : Image → Checkpoint → ℕ → ℕ
node_address image ckpt nid = if (nid == 0) || nat_le (nid_limit ckpt.geom) nid then 0 else (place_of_nid image ckpt nid).1

-- the block at an address, where there is one
abbrev pub block_there : Image → ℕ → Option (List ℕ)
block_there image at = if at == 0 then None else Some (block_at image at)

-- the block of a node
abbrev pub node : Image → Checkpoint → ℕ → Option (List ℕ)
node image ckpt nid = block_there image (node_address image ckpt nid)

-- the node at the end of some slots: each slot has the nid of the next one
abbrev pub node_along : Image → Checkpoint → Option (List ℕ) → List ℕ → Option (List ℕ)
node_along image ckpt from [] = from
node_along image ckpt None (slot ∷ slots) = None
node_along image ckpt (Some block) (slot ∷ slots) = node_along image ckpt (node image ckpt (node_word block slot)) slots

-- the node below an inode at the end of some slots, of which the first is one of the inode's nids
abbrev pub node_below : Image → Checkpoint → List ℕ → List ℕ → Option (List ℕ)
node_below image ckpt inode [] = None
node_below image ckpt inode (slot ∷ slots) = node_along image ckpt (node image ckpt (slice_index_or (inode_of inode).nids slot 0)) slots

-- the direct node below an inode that has a page's address: the last slot of the page is in it
unfoldable pub direct_node : Image → Checkpoint → List ℕ → ℕ → Option (List ℕ)
direct_node image ckpt inode page = node_below image ckpt inode (take (length (slots_of_page page) - 1) (slots_of_page page))

-- a word of a node that may not be there
abbrev pub word_of : Option (List ℕ) → ℕ → ℕ
word_of None slot = 0
word_of (Some block) slot = node_word block slot

-- the address of a page, in an inode or in this direct node
abbrev pub address_in : List ℕ → Option (List ℕ) → ℕ → ℕ
address_in inode direct page =
    if nat_lt page inode_pages then slice_index_or (inode_of inode).addresses page 0 else word_of direct (direct_slot page)

-- the address of a page of a file of the base
abbrev pub page_address : Image → Checkpoint → List ℕ → ℕ → ℕ
page_address image ckpt inode page = address_in inode (direct_node image ckpt inode page) page
