-- How the names of a directory are packed into dentry blocks. What a name takes is F2FS's (GET_DENTRY_SLOTS
-- and `struct f2fs_dentry_block` of f2fs_fs.h); the packing is this project's own: the names are taken in
-- byte order, with no gap before the end of a block. A name is the list of its bytes.
use Rattle.std.specs.Prelude.{◌≡◌, ℕ, ◌+◌, ◌-◌, ◌/◌, ◌≤◌, nat_le, if◌then◌else◌, List, [], ◌∷◌, length}

-- the name slots of a dentry block (NR_DENTRY_IN_BLOCK)
abbrev pub SLOTS_A_BLOCK : ℕ
SLOTS_A_BLOCK = 214

-- the bytes of a name slot (F2FS_SLOT_LEN)
abbrev pub BYTES_A_SLOT : ℕ
BYTES_A_SLOT = 8

-- the slots that a name takes (GET_DENTRY_SLOTS)
abbrev pub slots_of_name : List ℕ → ℕ
slots_of_name name = (length name + (BYTES_A_SLOT - 1)) / BYTES_A_SLOT

-- how far a directory is filled: the blocks begun, and the slots taken of the last of them
abbrev pub Reach : Type 0
Reach = ℕ × ℕ

-- nothing is packed: no block is begun, so there is no slot left
abbrev pub nothing_packed : Reach
nothing_packed = (0, SLOTS_A_BLOCK)

-- one name more: right after the one before, or, where it does not fit, at the start of the next block
abbrev pub place_after : Reach → List ℕ → Reach
place_after reach name =
    if nat_le (reach.1 + slots_of_name name) SLOTS_A_BLOCK then (reach.0, reach.1 + slots_of_name name)
    else (reach.0 + 1, slots_of_name name)

-- these names more, one after another
abbrev pub place_after_all : Reach → List (List ℕ) → Reach
place_after_all reach [] = reach
place_after_all reach (name ∷ names) = place_after_all (place_after reach name) names

-- how far a directory with these names is filled
abbrev pub place_reached : List (List ℕ) → Reach
place_reached names = place_after_all nothing_packed names

-- the dentry blocks that a directory with these names has
abbrev pub blocks_of_names : List (List ℕ) → ℕ
blocks_of_names names = (place_reached names).0

-- the place of a name that ends here: its block, counted from 0, and its first slot
abbrev pub place_ending : Reach → List ℕ → ℕ × ℕ
place_ending reach name = (reach.0 - 1, reach.1 - slots_of_name name)

-- the places of these names, in their order, where the names before them fill a directory so far
abbrev pub places_after : Reach → List (List ℕ) → List (ℕ × ℕ)
places_after reach [] = []
places_after reach (name ∷ names) =
    place_ending (place_after reach name) name ∷ places_after (place_after reach name) names

-- the place of each name of a directory: its block, counted from 0, and its first slot
abbrev pub places_of : List (List ℕ) → List (ℕ × ℕ)
places_of names = places_after nothing_packed names

-- the names of the first list stand in the second in the same order, perhaps with others between them
pub data IsSublist : List (List ℕ) → List (List ℕ) → Type 0 where
  none : IsSublist [] []
  kept : {few all : List (List ℕ)} (name : List ℕ) → IsSublist few all → IsSublist (name ∷ few) (name ∷ all)
  left_out : {few all : List (List ℕ)} (name : List ℕ) → IsSublist few all → IsSublist few (name ∷ all)

-- the first directory is filled no further than the second: fewer blocks are begun, or as many and no more
-- slots are taken of the last
pub record IsNoFurther (near far : Reach) : Type 0 where
  pub blocks : near.0 ≤ far.0
  pub slots : near.0 ≡ far.0 → near.1 ≤ far.1

-- names left out never make a directory reach further
abbrev pub SublistReachesNoFurther : Type 0
SublistReachesNoFurther =
    (few all : List (List ℕ)) → IsSublist few all → IsNoFurther (place_reached few) (place_reached all)
