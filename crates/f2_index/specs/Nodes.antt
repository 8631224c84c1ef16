-- What an index keeps beside its pages: how many pages each direct node has, and whether it is dirty.
use Rattle.std.specs.Prelude.{◌≡◌, ℕ, ◌+◌, ◌-◌, ◌<◌, Bool, true, false, Option, None, Some, nat_lt, if◌then◌else◌}
use Rattle.std.specs.Ordering.{nat_cmp}
use Rattle.std.specs.FinMap as map
use Rattle.std.specs.FinSet as set
use Rattle.f2_format.specs.Offsets.{page_limit}
use Rattle.f2_index.specs.Paged.{pages_of}
use Rattle.f2_index.specs.declared.nodes.Node.{Node}

-- a map from a direct node's offset to what is kept of it
abbrev pub Nodes : Type 0
Nodes = map.FinMap nat_cmp Node

-- how many pages are counted for a node
abbrev pub counted : Option Node → ℕ
counted None = 0
counted (Some node) = node.pages

-- whether a node is there and dirty
abbrev pub is_dirty : Option Node → Bool
is_dirty None = false
is_dirty (Some node) = node.dirty

-- the offsets of the dirty nodes
abbrev pub dirty_of : Nodes → set.FinSet nat_cmp
dirty_of nodes = set.retain (set.from_list (map.keys nodes)) (λ offset. is_dirty (map.get nodes offset))

-- the node is clean, where it is there
abbrev pub cleaned_at : Nodes → ℕ → Option Node → Nodes
cleaned_at nodes offset None = nodes
cleaned_at nodes offset (Some node) = map.insert nodes offset (record { pages = node.pages; dirty = false })

abbrev pub cleaned : Nodes → ℕ → Nodes
cleaned nodes offset = cleaned_at nodes offset (map.get nodes offset)

-- the nodes are those that have one of the pages, each with the number of its pages
pub record AreNodesOf (pages : map.FinMap nat_cmp ℕ) (nodes : Nodes) : Type 0 where
  pub below : (page : ℕ) → map.contains_key pages page ≡ true → page < page_limit
  pub counts : (offset : ℕ) → counted (map.get nodes offset) ≡ map.len (pages_of pages offset)
  pub present : (offset : ℕ) → map.contains_key nodes offset ≡ nat_lt 0 (map.len (pages_of pages offset))

-- the node of a page, where it has one, is dirty and has this many pages more
abbrev pub with_pages : Nodes → Option ℕ → ℕ → Nodes
with_pages nodes None more = nodes
with_pages nodes (Some offset) more = map.insert nodes offset (record { pages = counted (map.get nodes offset) + more; dirty = true })

-- the node of a page, where it has one, has a page less, and is dirty where one is left
abbrev pub without_page : Nodes → Option ℕ → Nodes
without_page nodes None = nodes
without_page nodes (Some offset) =
    if nat_lt 1 (counted (map.get nodes offset)) then map.insert nodes offset (record { pages = counted (map.get nodes offset) - 1; dirty = true })
    else map.remove nodes offset
