-- What the slots of a file's nodes stand for: the nodes right below an inode, the nodes right below any other node,
-- and the pages of a direct node. This restates the layout of get_node_path of the kernel's fs/f2fs/node.c from
-- above, where Offsets.antt of f2_format restates it from below.
use Rattle.std.specs.Prelude.{ℕ, ◌+◌, ◌-◌, ◌*◌, ◌/◌, ◌%◌, ◌==◌, nat_lt, Bool, ◌&&◌, ◌||◌, List, [], ◌∷◌, if◌then◌else◌}
use Rattle.f2_format.specs.Offsets.{inode_pages, node_slots, first_indirect, second_indirect, double_indirect, nth_indirect}

-- the nodes that an inode has nids of (i_nid): two direct ones, two indirect ones and the double indirect one
abbrev pub nodes_of_inode : List ℕ
nodes_of_inode = 1 ∷ 2 ∷ first_indirect ∷ second_indirect ∷ double_indirect ∷ []

-- how many nodes a file may have, its inode included: one more than the last offset
abbrev pub node_limit : ℕ
node_limit = nth_indirect node_slots

-- whether a node below the inode has nids, and no addresses: an indirect node or the double indirect one
abbrev pub has_nids : ℕ → Bool
has_nids offset =
    offset == first_indirect || (offset == second_indirect || (offset == double_indirect || (nat_lt double_indirect offset && (offset - nth_indirect 0) % (node_slots + 1) == 0)))

-- the node that stands in a slot of such a node: an indirect node, or a direct one right behind its indirect node
abbrev pub node_at : ℕ → ℕ → ℕ
node_at offset slot = if offset == double_indirect then nth_indirect slot else offset + 1 + slot

-- how many nodes with nids stand before a direct node
abbrev pub indirect_before : ℕ → ℕ
indirect_before offset =
    if nat_lt offset first_indirect then 0
    else if nat_lt offset second_indirect then 1
    else if nat_lt offset double_indirect then 2
    else 4 + (offset - nth_indirect 0) / (node_slots + 1)

-- the first page of a direct node: before it come the inode's pages, and those of the direct nodes before it
abbrev pub first_page_of : ℕ → ℕ
first_page_of offset = inode_pages + (offset - 1 - indirect_before offset) * node_slots
