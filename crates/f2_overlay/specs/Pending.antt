-- The newest blocks of the nodes of files since their last marks.
use Rattle.std.specs.Prelude.{◌≡◌, ◌≢◌, ℕ, zero, suc, ◌<◌, ◌==◌, ◌&&◌, if◌then◌else◌, List, length, Option, Some, None, option_and_then}
use Rattle.std.specs.Ordering.{nat_cmp}
use Rattle.std.specs.FinMap as map
use Rattle.f2_format.specs.Footer.{footer_ino}
use Rattle.f2_image.specs.Chains.{Logged, block_in, is_marked, is_node_of}

-- the last place before another one at which a node of a file stands, where no mark of the file stands behind it
abbrev pub newest_before : List Logged → ℕ → ℕ → ℕ → Option ℕ
newest_before log zero ino offset = None
newest_before log (suc place) ino offset =
    if is_marked (block_in log place) && (footer_ino (block_in log place) == ino) then None
    else if is_node_of (block_in log place) ino offset then Some place
    else newest_before log place ino offset

-- the places of blocks of one file by the offsets of its nodes, and those of all files by their inos
abbrev pub Places : Type 0
Places = map.FinMap nat_cmp ℕ

abbrev pub AllPlaces : Type 0
AllPlaces = map.FinMap nat_cmp Places

-- the place of a block of a file's node
abbrev pub place_of : AllPlaces → ℕ → ℕ → Option ℕ
place_of all ino offset = option_and_then (λ (places : Places). map.get places offset) (map.get all ino)

-- no place is past a log
abbrev pub AreWithin : List Logged → Places → Type 0
AreWithin log places = (offset place : ℕ) → map.get places offset ≡ Some place → place < length log

-- a node has another place, and no other node has
pub record IsNoted (old new : AllPlaces) (ino offset place : ℕ) : Type 0 where
  pub here : place_of new ino offset ≡ Some place
  pub nodes : (other : ℕ) → other ≢ offset → place_of new ino other ≡ place_of old ino other
  pub files : (other node : ℕ) → other ≢ ino → place_of new other node ≡ place_of old other node

-- a file has no places left, and those of the others stay
pub record IsLeft (old new : AllPlaces) (ino : ℕ) : Type 0 where
  pub none : (offset : ℕ) → place_of new ino offset ≡ None
  pub files : (other offset : ℕ) → other ≢ ino → place_of new other offset ≡ place_of old other offset

-- the newest blocks of the nodes of all files, but for inodes, as far as a log was walked
pub record ArePending (log : List Logged) (place : ℕ) (all : AllPlaces) : Type 0 where
  pub nodes : (ino offset : ℕ) → offset ≢ 0 → place_of all ino offset ≡ newest_before log place ino offset
  pub inodes : (ino : ℕ) → place_of all ino 0 ≡ None
