-- Addresses that are taken one after another.
use Rattle.std.specs.Prelude.{◌≡◌, ◌≢◌, ◌⊎◌, ℕ, ◌+◌, ◌*◌, ◌<◌, ◌==◌, true, false, not, nat_lt, List, length, take, slice_index, IsTrue, Some}
use Rattle.std.specs.List.{count_by, sum_by}
use Rattle.std.specs.Ordering.{nat_cmp}
use Rattle.std.specs.FinMap as map
use Rattle.std.specs.FinSet as set
use Rattle.f2_bitset.specs.Numbers.{Numbers}
use Rattle.f2_format.specs.Geometry.{ImageGeometry, node_third, data_third, node_start, data_start, is_in_data, is_in_node}
use Rattle.f2_format.specs.Offsets.{inode_pages}
use Rattle.f2_laid.specs.Laid.{PlaceMap, page_at, pages_of_place}
use Rattle.f2_laid.specs.declared.places.Place.{Place}

-- a set of numbers of a zone
abbrev pub IsOfNodes : ImageGeometry → Numbers → Type 0
IsOfNodes geom numbers = (numbers.first ≡ node_start geom) × (numbers.count ≡ 3 * node_third geom)

abbrev pub IsOfPages : ImageGeometry → Numbers → Type 0
IsOfPages geom numbers = (numbers.first ≡ data_start geom) × (numbers.count ≡ 3 * data_third geom)

-- an address of a zone that wasn't taken
pub record IsFreeNode (geom : ImageGeometry) (taken : set.FinSet nat_cmp) (at : ℕ) : Type 0 where
  pub inside : IsTrue (is_in_node geom at)
  pub free : set.contains taken at ≡ false

pub record IsFreePage (geom : ImageGeometry) (taken : set.FinSet nat_cmp) (at : ℕ) : Type 0 where
  pub inside : IsTrue (is_in_data geom at)
  pub free : set.contains taken at ≡ false

-- the first so many addresses that are there stand in the data zone, no two alike, and none was taken before
pub record AreNew (geom : ImageGeometry) (old : set.FinSet nat_cmp) (addresses : List ℕ) (count : ℕ) : Type 0 where
  pub inside : (page : ℕ) → page < count → slice_index addresses page ≢ 0 → IsTrue (is_in_data geom (slice_index addresses page))
  pub fresh : (page : ℕ) → page < count → slice_index addresses page ≢ 0 → set.contains old (slice_index addresses page) ≡ false
  pub apart : (page more : ℕ) → page < count → more < count → slice_index addresses page ≢ 0 → slice_index addresses page ≡ slice_index addresses more → page ≡ more

-- an address is one of the first so many
abbrev pub IsAmong : List ℕ → ℕ → ℕ → Type 0
IsAmong addresses count at = (page : ℕ) × ((page < count) × (slice_index addresses page ≡ at) × (at ≢ 0))

-- the first so many addresses that are there were taken
pub record AreTaken (old new : set.FinSet nat_cmp) (addresses : List ℕ) (count : ℕ) : Type 0 where
  pub members : (at : ℕ) → set.contains new at ≡ true → (set.contains old at ≡ true) ⊎ IsAmong addresses count at
  pub kept : (at : ℕ) → set.contains old at ≡ true → set.contains new at ≡ true
  pub added : (at : ℕ) → IsAmong addresses count at → set.contains new at ≡ true
  pub count_is : set.len new ≡ set.len old + count_by (λ at. not (at == 0)) (take count addresses)

-- places of inos below a limit
abbrev pub places_below : PlaceMap → ℕ → PlaceMap
places_below places limit = map.retain_keys places (λ ino. nat_lt ino limit)

-- the places of inos below a limit are kept apart, and their addresses are all that was taken
pub record AreKeptBelow (geom : ImageGeometry) (places : PlaceMap) (limit : ℕ) (nodes pages : set.FinSet nat_cmp) : Type 0 where
  pub whole : (ino : ℕ) (place : Place) → ino < limit → map.get places ino ≡ Some place → length place.addresses ≡ inode_pages
  pub node_in : (ino : ℕ) (place : Place) → ino < limit → map.get places ino ≡ Some place → IsTrue (is_in_node geom place.at)
  pub node_taken : (ino : ℕ) (place : Place) → ino < limit → map.get places ino ≡ Some place → set.contains nodes place.at ≡ true
  pub node_of : (at : ℕ) → set.contains nodes at ≡ true → (ino : ℕ) × ((place : Place) × ((ino < limit) × (map.get places ino ≡ Some place) × (place.at ≡ at)))
  pub nodes_apart : (ino other : ℕ) (a b : Place) → ino < limit → other < limit → map.get places ino ≡ Some a → map.get places other ≡ Some b → a.at ≡ b.at → ino ≡ other
  pub page_in : (ino page : ℕ) (place : Place) → ino < limit → map.get places ino ≡ Some place → page_at place page ≢ 0 → IsTrue (is_in_data geom (page_at place page))
  pub page_taken : (ino page : ℕ) (place : Place) → ino < limit → map.get places ino ≡ Some place → page_at place page ≢ 0 → set.contains pages (page_at place page) ≡ true
  pub page_of : (at : ℕ) → set.contains pages at ≡ true → (ino : ℕ) × ((page : ℕ) × ((place : Place) × ((ino < limit) × (map.get places ino ≡ Some place) × (page_at place page ≡ at) × (at ≢ 0))))
  pub pages_apart : (ino page other more : ℕ) (a b : Place) → ino < limit → other < limit → map.get places ino ≡ Some a → map.get places other ≡ Some b → page_at a page ≢ 0 → page_at a page ≡ page_at b more → (ino ≡ other) × (page ≡ more)
  pub files : set.len nodes ≡ map.len (places_below places limit)
  pub page_count : set.len pages ≡ sum_by pages_of_place (map.values (places_below places limit))
