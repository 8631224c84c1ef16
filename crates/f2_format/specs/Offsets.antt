-- Where the nodes of a file stand: each node has an offset in its file, and each page has one address, in
-- the inode or in a direct node. This restates get_node_path of the kernel's fs/f2fs/node.c, with the counts
-- of include/linux/f2fs_fs.h.
use Rattle.std.specs.Prelude.{◌≡◌, ℕ, ◌+◌, ◌-◌, ◌*◌, ◌/◌, ◌%◌, List, [], ◌∷◌, ◌++◌, Option, None, Some, refl, map, flat_map, nat_lt, if◌then◌else◌}
use Rattle.std.specs.Ordering.{nat_cmp}
use Rattle.std.specs.FinSet as set

-- how many pages the inode itself has an address for (ADDRS_PER_INODE)
abbrev pub inode_pages : ℕ
inode_pages = 923

-- how many addresses a direct node has, and how many nids an indirect node (DEF_ADDRS_PER_BLOCK, NIDS_PER_BLOCK)
abbrev pub node_slots : ℕ
node_slots = 1018

-- how many direct nodes a file may have: two of the inode, those of two indirect nodes and of the double indirect one
abbrev pub direct_limit : ℕ
direct_limit = 2 + 2 * node_slots + node_slots * node_slots

-- how many pages a file may have: those of the inode and of its direct nodes (max_file_blocks of fs/f2fs/super.c)
abbrev pub page_limit : ℕ
page_limit = inode_pages + direct_limit * node_slots

-- the first of the two indirect nodes right below the inode (NODE_IND1_BLOCK); its direct nodes follow it
abbrev pub first_indirect : ℕ
first_indirect = 3

-- the second of them (NODE_IND2_BLOCK), behind the direct nodes of the first; its direct nodes follow it
abbrev pub second_indirect : ℕ
second_indirect = 4 + node_slots

-- the double indirect node (NODE_DIND_BLOCK), behind the direct nodes of the second indirect node
abbrev pub double_indirect : ℕ
double_indirect = 5 + 2 * node_slots

-- the indirect node with this number, counted from 0, below the double indirect node; its direct nodes follow it
abbrev pub nth_indirect : ℕ → ℕ
nth_indirect x = double_indirect + 1 + x * (node_slots + 1)

-- the direct node with this number, counted from 0 in the order of the pages (get_node_path's cases)
abbrev pub nth_direct : ℕ → ℕ
nth_direct k =
    if nat_lt k 2 then 1 + k
    else if nat_lt k (2 + node_slots) then first_indirect + 1 + (k - 2)
    else if nat_lt k (2 + 2 * node_slots) then second_indirect + 1 + (k - (2 + node_slots))
    else
    let j = k - (2 + 2 * node_slots) in
    nth_indirect (j / node_slots) + 1 + j % node_slots

-- the number of the direct node that has the address of a page which the inode doesn't hold
abbrev pub direct_number : ℕ → ℕ
direct_number page = (page - inode_pages) / node_slots

-- the slot of that direct node where the address stands
abbrev pub direct_slot : ℕ → ℕ
direct_slot page = (page - inode_pages) % node_slots

-- the direct node that has the page's address; none where the inode has it, and at or above the limit
unfoldable pub direct_of : ℕ → Option ℕ
direct_of page =
    if nat_lt page inode_pages then None
    else if nat_lt page page_limit then Some (nth_direct (direct_number page))
    else None

-- the nodes between the inode and the direct node with this offset, from the top down
unfoldable pub nodes_above : ℕ → List ℕ
nodes_above offset =
    if nat_lt offset first_indirect then []
    else if nat_lt offset second_indirect then first_indirect ∷ []
    else if nat_lt offset double_indirect then second_indirect ∷ []
    else double_indirect ∷ nth_indirect ((offset - nth_indirect 0) / (node_slots + 1)) ∷ []

-- a direct node with the nodes above it, from the top down
abbrev pub nodes_down_to : Option ℕ → List ℕ
nodes_down_to None = []
nodes_down_to (Some offset) = nodes_above offset ++ offset ∷ []

-- the nodes below the inode that a page needs, from the top down (noffset of get_node_path)
abbrev pub nodes_of_page : ℕ → List ℕ
nodes_of_page page = nodes_down_to (direct_of page)

-- the slots on the way to a slot of the direct node with this number: in the inode's i_nid, then in each node below it
abbrev pub slots_to : ℕ → ℕ → List ℕ
slots_to k slot =
    if nat_lt k 2 then k ∷ slot ∷ []
    else if nat_lt k (2 + node_slots) then 2 ∷ (k - 2) ∷ slot ∷ []
    else if nat_lt k (2 + 2 * node_slots) then 3 ∷ (k - (2 + node_slots)) ∷ slot ∷ []
    else
    let j = k - (2 + 2 * node_slots) in
    4 ∷ (j / node_slots) ∷ (j % node_slots) ∷ slot ∷ []

-- the slots on the way to the page's address (offset of get_node_path): one in i_addr where the inode has it
unfoldable pub slots_of_page : ℕ → List ℕ
slots_of_page page =
    if nat_lt page inode_pages then page ∷ []
    else slots_to (direct_number page) (direct_slot page)

-- the offsets of all nodes of a file that has these pages: the inode, and the nodes below it that a page needs
unfoldable pub nodes_over : List ℕ → set.FinSet nat_cmp
nodes_over pages = set.from_list (0 ∷ flat_map nodes_of_page pages)

-- how many nodes such a file has
abbrev pub node_count : List ℕ → ℕ
node_count pages = set.len (nodes_over pages)

page_limit-is : page_limit ≡ 1057053439
page_limit-is = refl

-- the first and the last page of each part have these direct nodes
direct_of-parts :
    map direct_of (922 ∷ 923 ∷ 1940 ∷ 1941 ∷ 2958 ∷ 2959 ∷ 1039282 ∷ 1039283 ∷ 2075606 ∷ 2075607 ∷ 1057053438 ∷ 1057053439 ∷ [])
    ≡ None ∷ Some 1 ∷ Some 1 ∷ Some 2 ∷ Some 2 ∷ Some 4 ∷ Some 1021 ∷ Some 1023 ∷ Some 2040 ∷ Some 2043 ∷ Some 1039383 ∷ None ∷ []
unfolding direct_of
direct_of-parts = refl

-- pages of each depth need these nodes
nodes_of_page-parts :
    map nodes_of_page (922 ∷ 923 ∷ 2959 ∷ 1039283 ∷ 2075607 ∷ 1057053438 ∷ [])
    ≡ [] ∷ (1 ∷ []) ∷ (3 ∷ 4 ∷ []) ∷ (1022 ∷ 1023 ∷ []) ∷ (2041 ∷ 2042 ∷ 2043 ∷ []) ∷ (2041 ∷ 1038365 ∷ 1039383 ∷ []) ∷ []
unfolding direct_of nodes_above
nodes_of_page-parts = refl

-- and their addresses stand in these slots
slots_of_page-parts :
    map slots_of_page (922 ∷ 923 ∷ 2959 ∷ 1039283 ∷ 2075607 ∷ 1057053438 ∷ [])
    ≡ (922 ∷ []) ∷ (0 ∷ 0 ∷ []) ∷ (2 ∷ 0 ∷ 0 ∷ []) ∷ (3 ∷ 0 ∷ 0 ∷ []) ∷ (4 ∷ 0 ∷ 0 ∷ 0 ∷ []) ∷ (4 ∷ 1017 ∷ 1017 ∷ 1017 ∷ []) ∷ []
unfolding slots_of_page
slots_of_page-parts = refl
