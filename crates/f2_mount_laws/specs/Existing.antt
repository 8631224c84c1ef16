-- The tree of a sound image is taken over, with directories laid out as they are given.
use Rattle.std.specs.Prelude.{◌≡◌, ◌≢◌, ℕ, ◌<◌, true, false, List, [], Contains, Some, None, IsSome}
use Rattle.std.specs.FinMap as map
use Rattle.std.specs.FinSet as set
use Rattle.f2_format.specs.Offsets.{page_limit, nodes_of_page}
use Rattle.f2_format.specs.Dentry.{Dentry}
use Rattle.f2_format.specs.Geometry.{node_third, data_third}
use Rattle.f2_model.specs.Tree.{Rows}
use Rattle.f2_model.specs.State.{Mark, Inos, pair_cmp, rolled}
use Rattle.f2_model.specs.declared.rows.Row.{Row}
use Rattle.f2_model.specs.declared.rows.Kind.TheVariants.{Directory}
use Rattle.f2_image.specs.Images.{Image}
use Rattle.f2_image.specs.Packs.{Checkpoint}
use Rattle.f2_image.specs.Chains.{chain, marked_address}
use Rattle.f2_image.specs.Reached.{IsBasePage, HasMore}
use Rattle.f2_image.specs.Meanings.{MeansAt}
use Rattle.f2_stored.specs.Places.{Places, HasNames}
use Rattle.f2_stored.specs.Trees.{Unwritten}
use Rattle.f2_mount_laws.specs.Taken.{IsLastMark, IsUnmarked, HasBlock, IsTakenOver}

-- directories that are laid out anew, with the dentries of their pages, which stand nowhere yet
pub record Relaid : Type 0 where
  pub directories : Inos
  pub pages : map.FinMap pair_cmp ℕ
  pub dentries : map.FinMap pair_cmp (List Dentry)

abbrev pub nothing_relaid : Relaid
nothing_relaid = record { directories = set.empty; pages = map.empty; dentries = map.empty }

abbrev pub places_of : Relaid → Places
places_of relaid = record { nodes = map.empty; pages = relaid.pages; dentries = relaid.dentries }

-- so the directories of a base may be laid out for a tree: each that gets the name of a new file is among them, their pages have the names of
-- the tree, and each page's names are those of a block
pub record MayBeRelaid (base tree : Rows) (relaid : Relaid) : Type 0 where
  pub kinds : (ino : ℕ) → set.contains relaid.directories ino ≡ true → (row : Row) × (map.get base ino ≡ Some row) × (row.kind ≡ Directory)
  pub named : (ino : ℕ) (row : Row) → map.get tree ino ≡ Some row → map.get base ino ≡ None → set.contains relaid.directories row.parent ≡ true
  pub pages : (ino page at : ℕ) → map.get relaid.pages (ino, page) ≡ Some at → (set.contains relaid.directories ino ≡ true) × (page < page_limit) × (at ≡ 0)
  pub names : (ino : ℕ) → set.contains relaid.directories ino ≡ true → HasNames tree (places_of relaid) ino
  pub blocks : (ino page : ℕ) → set.contains relaid.directories ino ≡ true → IsSome (map.get relaid.pages (ino, page)) → HasBlock (places_of relaid) ino page

-- a page of the tree that base and marks make: the base's, where its directory isn't laid out anew, that of a file's last mark, or one of a
-- directory that is
pub data IsTreePage (image : Image) (ckpt : Checkpoint) (relaid : Relaid) (ino page at : ℕ) : Type 0 where
  kept : set.contains relaid.directories ino ≡ false → IsUnmarked image ckpt ino → IsBasePage image ckpt ino page at → IsTreePage image ckpt relaid ino page at
  marked : (place : ℕ) → IsLastMark image ckpt ino place → page < page_limit → marked_address image ckpt (chain image ckpt) place page ≡ at → at ≢ 0 → IsTreePage image ckpt relaid ino page at
  laid : map.get relaid.pages (ino, page) ≡ Some at → IsTreePage image ckpt relaid ino page at

abbrev pub IsSomeTreePage : Image → Checkpoint → Relaid → ℕ × ℕ → Type 0
IsSomeTreePage image ckpt relaid of = (at : ℕ) × IsTreePage image ckpt relaid of.0 of.1 at

-- a node that such a page or a row needs
pub data IsTreeNode (image : Image) (ckpt : Checkpoint) (tree : Rows) (relaid : Relaid) (at : ℕ × ℕ) : Type 0 where
  inode : at.1 ≡ 0 → IsSome (map.get tree at.0) → IsTreeNode image ckpt tree relaid at
  on_way : (page address : ℕ) → IsTreePage image ckpt relaid at.0 page address → Contains (nodes_of_page page) at.1 → IsTreeNode image ckpt tree relaid at

-- a third of each zone holds them. An image that is sound doesn't say so of a directory that isn't laid out anew: it counts the blocks that
-- the directory's names need, and the directory may have more of them
pub record HasRoomFor (image : Image) (ckpt : Checkpoint) (tree : Rows) (relaid : Relaid) : Type 0 where
  pub nodes : ¬ (HasMore (ℕ × ℕ) (IsTreeNode image ckpt tree relaid) (node_third ckpt.geom))
  pub pages : ¬ (HasMore (ℕ × ℕ) (IsSomeTreePage image ckpt relaid) (data_third ckpt.geom))

-- so the tree of a sound image is taken over. A definition that asks a marked file's inode to be where the base has it would break it
abbrev pub TreesAreTakenOver : Type 0
TreesAreTakenOver =
    (image : Image) (ckpt : Checkpoint) (base : Rows) (marks : List Mark) (relaid : Relaid) →
    MeansAt image ckpt base marks →
    MayBeRelaid base (rolled base marks) relaid →
    HasRoomFor image ckpt (rolled base marks) relaid →
    (places : Places) × ((unwritten : Unwritten) × IsTakenOver image ckpt base marks (rolled base marks) places unwritten)

-- where no mark is there, nothing has to be laid out anew. A definition that asks for a mark of each file would break it
abbrev pub UnmarkedTreesAreTakenOver : Type 0
UnmarkedTreesAreTakenOver =
    (image : Image) (ckpt : Checkpoint) (base : Rows) →
    MeansAt image ckpt base [] →
    (places : Places) × ((unwritten : Unwritten) × IsTakenOver image ckpt base [] base places unwritten)
