-- The nodes, the pages and the blocks that an image's base and marks name.
use Rattle.std.specs.Prelude.{◌≡◌, ◌≢◌, ◌⊎◌, ℕ, ◌+◌, ◌-◌, ◌%◌, ◌<◌, ◌≤◌, ◌==◌, nat_lt, Bool, ◌&&◌, if◌then◌else◌, IsTrue, List, [], ◌∷◌, length, slice_index_or, Option, Some, None}
use Rattle.std.specs.List.{AllByRecursion}
use Rattle.f2_format.specs.Offsets.{page_limit, node_slots, direct_limit, first_indirect, second_indirect, double_indirect, nth_indirect, nth_direct}
use Rattle.f2_format.specs.Footer.{footer_ino, footer_offset}
use Rattle.f2_format.specs.Inode.{inode_of, node_word, NIDS_AN_INODE}
use Rattle.f2_model.specs.declared.rows.Kind.{Kind}
use Rattle.f2_image.specs.Images.{Image}
use Rattle.f2_image.specs.Packs.{Checkpoint}
use Rattle.f2_image.specs.Nodes.{node, page_address}
use Rattle.f2_image.specs.Bases.{IsInode, IsReached}
use Rattle.f2_image.specs.Chains.{chain, block_in, is_marked, marked_address}

-- the offset of the node that one of the inode's nids names
abbrev pub offset_of_nid : ℕ → Option ℕ
offset_of_nid slot =
    if slot == 0 then Some 1 else if slot == 1 then Some 2 else if slot == 2 then Some first_indirect
    else if slot == 3 then Some second_indirect else if slot == 4 then Some double_indirect else None

-- whether an offset is that of an indirect node below the double indirect one
abbrev pub is_low_indirect : ℕ → Bool
is_low_indirect offset = nat_lt double_indirect offset && nat_lt offset (nth_indirect node_slots) && ((offset - nth_indirect 0) % (node_slots + 1) == 0)

-- the offset of the node that a slot of a node names; a direct node names none
unfoldable pub offset_below : ℕ → ℕ → Option ℕ
offset_below offset slot =
    if offset == 0 then offset_of_nid slot
    else if offset == first_indirect then Some (first_indirect + 1 + slot)
    else if offset == second_indirect then Some (second_indirect + 1 + slot)
    else if offset == double_indirect then Some (nth_indirect slot)
    else if is_low_indirect offset then Some (offset + 1 + slot)
    else None

-- the slots of a node that may name others, and the nid in one of them
abbrev pub nids_of_node : ℕ → ℕ
nids_of_node offset = if offset == 0 then NIDS_AN_INODE else node_slots

abbrev pub nid_in : List ℕ → ℕ → ℕ → ℕ
nid_in block offset slot = if offset == 0 then slice_index_or (inode_of block).nids slot 0 else node_word block slot

-- the nodes of the base, also those above no page: a file's inode, and what a node of it names, by ino, offset and nid
pub data IsNode (image : Image) (ckpt : Checkpoint) : ℕ → ℕ → ℕ → Type 0 where
  inode : (ino : ℕ) → IsReached image ckpt ino → IsNode image ckpt ino 0 ino
  named : (ino offset nid slot lower : ℕ) (block : List ℕ) → IsNode image ckpt ino offset nid → node image ckpt nid ≡ Some block → slot < nids_of_node offset
      → offset_below offset slot ≡ Some lower → nid_in block offset slot ≢ 0 → IsNode image ckpt ino lower (nid_in block offset slot)

-- an offset is that of a direct node
pub record IsDirect (offset : ℕ) : Type 0 where
  pub number : ℕ
  pub within : number < direct_limit
  pub is : nth_direct number ≡ offset

-- a place of the chain has a marked block
pub record IsMarkedAt (image : Image) (ckpt : Checkpoint) (place : ℕ) (block : List ℕ) : Type 0 where
  pub within : place < length (chain image ckpt)
  pub stands : block ≡ block_in (chain image ckpt) place
  pub marked : IsTrue (is_marked block)

-- a chain block counts: a marked block of its file stands there or later
pub record IsCounted (image : Image) (ckpt : Checkpoint) (place : ℕ) (block : List ℕ) : Type 0 where
  pub stands : block ≡ block_in (chain image ckpt) place
  pub mark : ℕ
  pub inode : List ℕ
  pub later : place ≤ mark
  pub marked : IsMarkedAt image ckpt mark inode
  pub same : footer_ino inode ≡ footer_ino block

-- a block of the node log that recovery takes: a marked one, or a direct node that counts
pub data IsTaken (image : Image) (ckpt : Checkpoint) (place : ℕ) (block : List ℕ) : Type 0 where
  marked : IsMarkedAt image ckpt place block → IsTaken image ckpt place block
  direct : IsCounted image ckpt place block → IsDirect (footer_offset block) → IsTaken image ckpt place block

-- a page of a row of the base, dentry blocks included, with its address
pub record IsBasePage (image : Image) (ckpt : Checkpoint) (ino page at : ℕ) : Type 0 where
  pub reached : IsReached image ckpt ino
  pub kind : Kind
  pub inode : List ℕ
  pub is : IsInode image ckpt ino kind inode
  pub within : page < page_limit
  pub address : page_address image ckpt inode page ≡ at
  pub there : at ≢ 0

-- a page of the row of a marked block, with its address
pub record IsMarkedPage (image : Image) (ckpt : Checkpoint) (ino page at : ℕ) : Type 0 where
  pub place : ℕ
  pub inode : List ℕ
  pub marked : IsMarkedAt image ckpt place inode
  pub own : footer_ino inode ≡ ino
  pub within : page < page_limit
  pub address : marked_address image ckpt (chain image ckpt) place page ≡ at
  pub there : at ≢ 0

abbrev pub IsPage : Image → Checkpoint → ℕ → ℕ → ℕ → Type 0
IsPage image ckpt ino page at = IsBasePage image ckpt ino page at ⊎ IsMarkedPage image ckpt ino page at

-- all members of a list differ
abbrev pub AllDiffer : {X : Type 0} → List X → Type 0
AllDiffer [] = Unit {0}
AllDiffer (x ∷ xs) = AllByRecursion (λ y. x ≢ y) xs × AllDiffer xs

-- more than so many have a property
pub record HasMore (X : Type 0) (P : X → Type 0) (most : ℕ) : Type 0 where
  pub some : List X
  pub differ : AllDiffer some
  pub all : AllByRecursion P some
  pub more : most < length some
