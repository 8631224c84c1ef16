-- The nodes that the pages of a tree need, all of them and no more, at the tree's places.
use Rattle.std.specs.Prelude.{◌≡◌, ◌≢◌, ◌↔◌, ℕ, ◌==◌, List, length, Contains, Some, IsSome, IsTrue}
use Rattle.std.specs.List.{filter}
use Rattle.std.specs.FinMap as map
use Rattle.std.specs.FinSet as set
use Rattle.f2_format.specs.Offsets.{direct_of, nodes_over, node_count}
use Rattle.f2_model.specs.Tree.{Rows}
use Rattle.f2_model.specs.Count.{page_numbers, nodes_of_tree, data_of_tree}
use Rattle.f2_model.specs.declared.rows.Row.{Row}
use Rattle.f2_stored.specs.Places.{Places, IsNamedAbove}

-- the nodes that the places tell of a file are those that these pages need
abbrev pub HasNodesOver : Places → ℕ → List ℕ → Type 0
HasNodesOver places ino pages = (offset : ℕ) → IsSome (map.get places.nodes (ino, offset)) ↔ IsTrue (set.contains (nodes_over pages) offset)

-- the pages that the places tell of a file are these
abbrev pub HasPages : Places → ℕ → List ℕ → Type 0
HasPages places ino pages = (page : ℕ) → IsSome (map.get places.pages (ino, page)) ↔ Contains pages page

-- each node below the inode is named above by one of them
abbrev pub NodesAreNamedAbove : Type 0
NodesAreNamedAbove =
    (places : Places) (ino : ℕ) (pages : List ℕ) → HasNodesOver places ino pages
    → (offset : ℕ) → offset ≢ 0 → IsSome (map.get places.nodes (ino, offset)) → IsNamedAbove places ino offset

-- the inode is there
abbrev pub InodesAreThere : Type 0
InodesAreThere = (places : Places) (ino : ℕ) (pages : List ℕ) → HasNodesOver places ino pages → IsSome (map.get places.nodes (ino, 0))

-- so is the direct node of each page that has one
abbrev pub DirectNodesAreThere : Type 0
DirectNodesAreThere =
    (places : Places) (ino : ℕ) (pages : List ℕ) → HasNodesOver places ino pages
    → (page offset : ℕ) → Contains pages page → direct_of page ≡ Some offset → IsSome (map.get places.nodes (ino, offset))

-- and no file has fewer: one with its inode and each page's direct node, in which each node below the inode is named above, has all of them
abbrev pub NodesAreNeeded : Type 0
NodesAreNeeded =
    (places : Places) (ino : ℕ) (pages : List ℕ) → IsSome (map.get places.nodes (ino, 0))
    → ((page offset : ℕ) → Contains pages page → direct_of page ≡ Some offset → IsSome (map.get places.nodes (ino, offset)))
    → ((offset : ℕ) → offset ≢ 0 → IsSome (map.get places.nodes (ino, offset)) → IsNamedAbove places ino offset)
    → (offset : ℕ) → IsTrue (set.contains (nodes_over pages) offset) → IsSome (map.get places.nodes (ino, offset))

-- the nodes that the places tell of a file
abbrev pub nodes_at : Places → ℕ → List (ℕ × ℕ)
nodes_at places ino = filter (λ at. at.0 == ino) (map.keys places.nodes)

-- they are as many as such a file has
abbrev pub NodesAreCounted : Type 0
NodesAreCounted = (places : Places) (ino : ℕ) (pages : List ℕ) → HasNodesOver places ino pages → length (nodes_at places ino) ≡ node_count pages

-- the places tell of a tree the nodes and the pages of each of its rows, and no others
pub record AreWhole (tree : Rows) (places : Places) : Type 0 where
  pub nodes : (ino : ℕ) (row : Row) → map.get tree ino ≡ Some row → HasNodesOver places ino (page_numbers row.kind (map.values tree) row)
  pub pages : (ino : ℕ) (row : Row) → map.get tree ino ≡ Some row → HasPages places ino (page_numbers row.kind (map.values tree) row)
  pub only_nodes : (ino offset : ℕ) → IsSome (map.get places.nodes (ino, offset)) → IsSome (map.get tree ino)
  pub only_pages : (ino page : ℕ) → IsSome (map.get places.pages (ino, page)) → IsSome (map.get tree ino)

-- these are as many as the tree's nodes and data blocks
abbrev pub WholeTreesAreCounted : Type 0
WholeTreesAreCounted =
    (tree : Rows) (places : Places) → AreWhole tree places
    → (map.len places.nodes ≡ nodes_of_tree tree) × (map.len places.pages ≡ data_of_tree tree)
