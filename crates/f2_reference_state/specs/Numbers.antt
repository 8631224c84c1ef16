-- The numbers of nodes: which node has which, which are held, and what each event does to them.
use Rattle.std.specs.Prelude.{ℕ, ◌-◌, Bool, false, not, ◌&&◌, ◌||◌, ◌==◌, is_none, length, List, [], ◌∷◌, ◌++◌, map as map_list, Option, None, Some}
use Rattle.std.specs.List.{list_any, filter, find, range_with_len, slice_get}
use Rattle.std.specs.FinMap as map
use Rattle.std.specs.FinSet as set
use Rattle.std.specs.Option.{option_map}
use Rattle.f2_model.specs.State.{State}
use Rattle.f2_model.specs.declared.bounds.Limits.{Limits}
use Rattle.f2_reference_state.specs.declared.numbers.Node.{Node}
use Rattle.f2_reference_state.specs.declared.numbers.Logged.{Logged}

-- the nodes of the live tree and those of the base, each but the inodes, whose nids are their inos, and the direct nodes whose blocks stand in the node log since the base
pub record Numbers : Type 0 where
  pub live : List Node
  pub base : List Node
  pub log : List Logged

-- whether a node is the one of a file at an offset, and whether it has a nid
abbrev pub is_node : ℕ → ℕ → Node → Bool
is_node ino offset node = (node.ino == ino) && (node.offset == offset)

abbrev pub nid_of : List Node → ℕ → ℕ → Option ℕ
nid_of nodes ino offset = option_map (λ node. node.nid) (find (is_node ino offset) nodes)

abbrev pub has_nid : List Node → ℕ → Bool
has_nid nodes nid = list_any (λ node. node.nid == nid) nodes

-- whether the node log holds a nid: that of a direct node whose block stands before a mark of its file
abbrev pub log_holds : List Logged → ℕ → Bool
log_holds log nid = list_any (λ block. block.is_marked && (block.node.nid == nid)) log

-- whether a number is that of a node of the live tree or the base, or the node log holds it, inodes aside
abbrev pub is_held : Numbers → ℕ → Bool
is_held numbers nid = has_nid numbers.live nid || (has_nid numbers.base nid || log_holds numbers.log nid)

-- whether nothing holds a number: no inode of the tree or the base, none that the node log holds, and no other node
abbrev pub is_free_number : State → Numbers → ℕ → Bool
is_free_number state numbers nid =
    is_none (map.get state.live nid) && (is_none (map.get state.base nid) && (not (set.contains state.logged nid) && not (is_held numbers nid)))

-- the number that is drawn next: the least that nothing holds
abbrev pub next_number : Limits → State → Numbers → Option ℕ
next_number limits state numbers = find (is_free_number state numbers) (range_with_len 4 (limits.nids - 4))

-- a direct node was written to the node log, where it is one of the live tree
abbrev pub with_block : List Logged → Option Node → List Logged
with_block log None = log
with_block log (Some node) = log ++ record { node = node; is_marked = false } ∷ []

abbrev pub after_node : Numbers → ℕ → ℕ → Numbers
after_node numbers ino offset = record numbers { log = with_block numbers.log (find (is_node ino offset) numbers.live) }

-- a mark of a file was written to the node log, which holds the nids of the file's blocks before it
abbrev pub marked_by : ℕ → Logged → Logged
marked_by ino block = record block { is_marked = block.is_marked || (block.node.ino == ino) }

abbrev pub after_mark : Numbers → ℕ → Numbers
after_mark numbers ino = record numbers { log = map_list (marked_by ino) numbers.log }

-- a checkpoint is done: the base is what is live, and the node log holds nothing
abbrev pub after_checkpoint : Numbers → Numbers
after_checkpoint numbers = record numbers { base = numbers.live; log = [] }

-- a file was removed; and one has nodes at these offsets left
abbrev pub after_removal : Numbers → ℕ → Numbers
after_removal numbers ino = record numbers { live = filter (λ node. not (node.ino == ino)) numbers.live }

abbrev pub after_cut : Numbers → ℕ → List ℕ → Numbers
after_cut numbers ino offsets =
    record numbers { live = filter (λ node. not (node.ino == ino) || list_any (λ offset. offset == node.offset) offsets) numbers.live }

-- a file gained a node
abbrev pub after_draw : Numbers → Node → Numbers
after_draw numbers node = record numbers { live = numbers.live ++ node ∷ [] }

-- the last of some blocks
abbrev pub last_of : List Logged → Option Logged
last_of blocks = slice_get blocks (length blocks - 1)

-- the number of a node of the tree that a mount takes over: that of its newest block before a mark in the node log, or else that of the base
abbrev pub or_else : Option ℕ → Option ℕ → Option ℕ
or_else (Some nid) other = Some nid
or_else None other = other

abbrev pub is_marked_node : ℕ → ℕ → Logged → Bool
is_marked_node ino offset block = block.is_marked && is_node ino offset block.node

abbrev pub newest_nid : List Logged → ℕ → ℕ → Option ℕ
newest_nid log ino offset = option_map (λ block. block.node.nid) (last_of (filter (is_marked_node ino offset) log))

abbrev pub found_nid : Numbers → ℕ → ℕ → Option ℕ
found_nid numbers ino offset = or_else (newest_nid numbers.log ino offset) (nid_of numbers.base ino offset)

-- a mount begins with no node of the live tree; then the nodes of the tree that it found gain the numbers which these have, and the others draw
abbrev pub after_mount : Numbers → Numbers
after_mount numbers = record numbers { live = [] }
