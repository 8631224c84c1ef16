-- The tree that a mount goes on with: where what it takes over of an image stands, and what of it is to be written.
use Rattle.std.specs.Prelude.{◌≡◌, ◌≢◌, ℕ, ◌+◌, ◌<◌, ◌≤◌, ◌==◌, true, false, if◌then◌else◌, IsTrue, List, length, Contains, Option, Some, None, IsSome}
use Rattle.std.specs.FinMap as map
use Rattle.std.specs.FinSet as set
use Rattle.f2_format.specs.Offsets.{page_limit, nodes_of_page}
use Rattle.f2_format.specs.Geometry.{nid_limit, node_third, data_third}
use Rattle.f2_format.specs.Footer.{footer_nid, footer_ino}
use Rattle.f2_format.specs.Dentry.{dentry_fault, dentries_of}
use Rattle.f2_disk.specs.Contents.{IsBlock}
use Rattle.f2_model.specs.Tree.{Rows}
use Rattle.f2_model.specs.State.{Mark, Inos, rolled}
use Rattle.f2_model.specs.declared.rows.Row.{Row}
use Rattle.f2_model.specs.declared.rows.Kind.TheVariants.{Directory}
use Rattle.f2_image.specs.Images.{Image}
use Rattle.f2_image.specs.Packs.{Checkpoint}
use Rattle.f2_image.specs.Chains.{Logged, chain, block_in, is_node_of, last_before, marked_address}
use Rattle.f2_image.specs.Reached.{IsDirect, IsMarkedAt}
use Rattle.f2_image_laws.specs.Chained.{address_of}
use Rattle.f2_stored.specs.Places.{NodeAt, Places, dentries_at, HasNames}
use Rattle.f2_stored.specs.Trees.{IsTreeAt, Unwritten}

-- of the marks of a file the last one counts
pub record IsLastMark (image : Image) (ckpt : Checkpoint) (ino place : ℕ) : Type 0 where
  pub marked : IsMarkedAt image ckpt place (block_in (chain image ckpt) place)
  pub own : footer_ino (block_in (chain image ckpt) place) ≡ ino
  pub last : (later : ℕ) (block : List ℕ) → IsMarkedAt image ckpt later block → footer_ino block ≡ ino → later ≤ place

-- a row that has none is the base's
abbrev pub IsUnmarked : Image → Checkpoint → ℕ → Type 0
IsUnmarked image ckpt ino = (place : ℕ) (block : List ℕ) → IsMarkedAt image ckpt place block → footer_ino block ≢ ino

-- the last block of a node of a file up to a place of a log
pub record IsLastBlock (log : List Logged) (place ino offset at : ℕ) : Type 0 where
  pub before : at ≤ place
  pub own : IsTrue (is_node_of (block_in log at) ino offset)
  pub last : (later : ℕ) → at < later → later ≤ place → is_node_of (block_in log later) ino offset ≡ false

-- a nid for a new node: no node of the base and no block of the node log has it
pub record IsNewNid (image : Image) (ckpt : Checkpoint) (old : Places) (nid : ℕ) : Type 0 where
  pub least : 4 ≤ nid
  pub most : nid < nid_limit ckpt.geom
  pub no_base : (ino offset : ℕ) (node : NodeAt) → map.get old.nodes (ino, offset) ≡ Some node → node.nid ≢ nid
  pub no_log : (place : ℕ) → place < length (chain image ckpt) → footer_nid (block_in (chain image ckpt) place) ≢ nid

-- a node stays where the base has it, and else it is a new one, which stands nowhere yet
pub data StaysOrComes (image : Image) (ckpt : Checkpoint) (old : Places) (ino offset : ℕ) (node : NodeAt) : Type 0 where
  stays : map.get old.nodes (ino, offset) ≡ Some node → StaysOrComes image ckpt old ino offset node
  comes : map.get old.nodes (ino, offset) ≡ None → node.at ≡ 0 → IsNewNid image ckpt old node.nid → StaysOrComes image ckpt old ino offset node

-- a node of a file whose last mark stands at a place of the node log: its inode is the marked block, a direct node its last block up to there,
-- else the base's; the indirect ones aren't read of the log
pub data IsMarkedNode (image : Image) (ckpt : Checkpoint) (old : Places) (place ino offset : ℕ) (node : NodeAt) : Type 0 where
  inode : offset ≡ 0 → node.nid ≡ ino → node.at ≡ address_of (chain image ckpt) place → IsMarkedNode image ckpt old place ino offset node
  logged : (at : ℕ) → IsDirect offset → IsLastBlock (chain image ckpt) place ino offset at → node.nid ≡ footer_nid (block_in (chain image ckpt) at) → node.at ≡ address_of (chain image ckpt) at
      → IsMarkedNode image ckpt old place ino offset node
  based : IsDirect offset → last_before (chain image ckpt) (place + 1) ino offset ≡ None → map.get old.nodes (ino, offset) ≡ Some node → IsMarkedNode image ckpt old place ino offset node
  indirect : offset ≢ 0 → ¬ (IsDirect offset) → StaysOrComes image ckpt old ino offset node → IsMarkedNode image ckpt old place ino offset node

-- a node of any row, where some directories are laid out anew
pub data IsTakenNode (image : Image) (ckpt : Checkpoint) (old : Places) (anew : Inos) (ino offset : ℕ) (node : NodeAt) : Type 0 where
  kept : IsUnmarked image ckpt ino → set.contains anew ino ≡ false → map.get old.nodes (ino, offset) ≡ Some node → IsTakenNode image ckpt old anew ino offset node
  marked : (place : ℕ) → IsLastMark image ckpt ino place → IsMarkedNode image ckpt old place ino offset node → IsTakenNode image ckpt old anew ino offset node
  laid : set.contains anew ino ≡ true → StaysOrComes image ckpt old ino offset node → IsTakenNode image ckpt old anew ino offset node

-- the nodes that a row needs: its inode, and those on the way to each of its pages
pub data IsNeeded (tree : Rows) (places : Places) (ino offset : ℕ) : Type 0 where
  inode : offset ≡ 0 → IsSome (map.get tree ino) → IsNeeded tree places ino offset
  on_way : (page : ℕ) → IsSome (map.get places.pages (ino, page)) → Contains (nodes_of_page page) offset → IsNeeded tree places ino offset

-- the base has a node of a row that isn't taken over, since it is above no page
pub record IsThinned (old places : Places) (ino : ℕ) : Type 0 where
  pub offset : ℕ
  pub there : IsSome (map.get old.nodes (ino, offset))
  pub gone : map.get places.nodes (ino, offset) ≡ None

-- a node that is to be written: every one of a directory that is laid out anew; of a marked file and of a row that lost nodes the inode and
-- the indirect ones
pub data IsToWrite (image : Image) (ckpt : Checkpoint) (old : Places) (anew : Inos) (places : Places) (ino offset : ℕ) : Type 0 where
  laid : set.contains anew ino ≡ true → IsToWrite image ckpt old anew places ino offset
  marked : (place : ℕ) → IsLastMark image ckpt ino place → ¬ (IsDirect offset) → IsToWrite image ckpt old anew places ino offset
  thinned : IsThinned old places ino → ¬ (IsDirect offset) → IsToWrite image ckpt old anew places ino offset

-- an address, where it is one
abbrev pub some_address : ℕ → Option ℕ
some_address at = if at == 0 then None else Some at

-- a page of a directory that is laid out anew stands where the base has it, or nowhere yet
abbrev pub IsLaidPage : Places → ℕ → ℕ → ℕ → Type 0
IsLaidPage old ino page at = (at ≢ 0) → map.get old.pages (ino, page) ≡ Some at

-- some names are those of a block
pub record HasBlock (places : Places) (ino page : ℕ) : Type 0 where
  pub block : List ℕ
  pub whole : IsBlock block
  pub right : dentry_fault block ≡ None
  pub names : dentries_of block ≡ dentries_at places ino page

-- base and marks of an image make a tree, which stands at places as a mount takes it over
pub record IsTakenOver (image : Image) (ckpt : Checkpoint) (base : Rows) (marks : List Mark) (tree : Rows) (places : Places) (unwritten : Unwritten) : Type 0 where
  pub rolls : tree ≡ rolled base marks
  -- the places of the base
  pub old : Places
  pub stands : IsTreeAt image ckpt base old
  -- some directories of the base are laid out anew, each among them that gets the name of a new file
  pub anew : Inos
  pub directories : (ino : ℕ) → set.contains anew ino ≡ true → (row : Row) × (map.get base ino ≡ Some row) × (row.kind ≡ Directory)
  pub named : (ino : ℕ) (row : Row) → map.get tree ino ≡ Some row → map.get base ino ≡ None → set.contains anew row.parent ≡ true
  -- the nodes are those that are needed, and of new ones each has a nid of its own
  pub nodes : (ino offset : ℕ) (node : NodeAt) → map.get places.nodes (ino, offset) ≡ Some node → IsTakenNode image ckpt old anew ino offset node
  pub needed : (ino offset : ℕ) → IsSome (map.get places.nodes (ino, offset)) → IsNeeded tree places ino offset
  pub all_needed : (ino offset : ℕ) → IsNeeded tree places ino offset → IsSome (map.get places.nodes (ino, offset))
  pub new_apart : (one other : ℕ × ℕ) (a b : NodeAt) → map.get places.nodes one ≡ Some a → map.get places.nodes other ≡ Some b → IsNewNid image ckpt old a.nid → a.nid ≡ b.nid → one ≡ other
  -- the pages are the base's, or those of each file's last mark
  pub rows : (ino page at : ℕ) → map.get places.pages (ino, page) ≡ Some at → IsSome (map.get tree ino) × (page < page_limit)
  pub kept_pages : (ino page : ℕ) → IsUnmarked image ckpt ino → set.contains anew ino ≡ false → map.get places.pages (ino, page) ≡ map.get old.pages (ino, page)
  pub marked_pages : (ino place page : ℕ) → IsLastMark image ckpt ino place → page < page_limit → map.get places.pages (ino, page) ≡ some_address (marked_address image ckpt (chain image ckpt) place page)
  pub laid_pages : (ino page at : ℕ) → set.contains anew ino ≡ true → map.get places.pages (ino, page) ≡ Some at → IsLaidPage old ino page at
  -- names stand where the base has them, but for directories laid out anew, whose pages have the names of the tree, as many as a block holds
  pub kept_names : (ino page : ℕ) → IsUnmarked image ckpt ino → set.contains anew ino ≡ false → map.get places.dentries (ino, page) ≡ map.get old.dentries (ino, page)
  pub laid_names : (ino : ℕ) → set.contains anew ino ≡ true → HasNames tree places ino
  pub laid_blocks : (ino page : ℕ) → set.contains anew ino ≡ true → IsSome (map.get places.pages (ino, page)) → HasBlock places ino page
  -- a third of each zone holds them
  pub few_nodes : map.len places.nodes ≤ node_third ckpt.geom
  pub few_pages : map.len places.pages ≤ data_third ckpt.geom
  -- what is to be written, and nothing else
  pub left_nodes : (ino offset : ℕ) (node : NodeAt) → map.get places.nodes (ino, offset) ≡ Some node → IsToWrite image ckpt old anew places ino offset → set.contains unwritten.nodes (ino, offset) ≡ true
  pub only_nodes : (ino offset : ℕ) → set.contains unwritten.nodes (ino, offset) ≡ true → IsSome (map.get places.nodes (ino, offset)) × IsToWrite image ckpt old anew places ino offset
  pub left_pages : (ino page at : ℕ) → map.get places.pages (ino, page) ≡ Some at → set.contains anew ino ≡ true → set.contains unwritten.pages (ino, page) ≡ true
  pub only_pages : (ino page : ℕ) → set.contains unwritten.pages (ino, page) ≡ true → IsSome (map.get places.pages (ino, page)) × (set.contains anew ino ≡ true)
