-- Which addresses of a zone places have.
use Rattle.std.specs.Prelude.{◌≡◌, ◌≢◌, ℕ, ◌+◌, ◌*◌, ◌≤◌, true, List, map as map_list, Some}
use Rattle.std.specs.Borrow.{Bor}
use Rattle.std.specs.FinMap as map
use Rattle.std.specs.FinSet as set
use Rattle.f2_bitset.specs.Numbers.{Numbers}
use Rattle.f2_format.specs.Geometry.{ImageGeometry, node_third, data_third, node_start, data_start, IsGeometry}
use Rattle.f2_laid.specs.Laid.{PlaceMap, page_at, pages_of_place}
use Rattle.f2_laid.specs.declared.places.Place.{Place}

-- the places that references lead to
abbrev pub places_at : List (Bor Place) → List Place
places_at places = map_list (λ place. place.now) places

-- numbers are from the node zone, and from the data zone
pub record AreNodes (geom : ImageGeometry) (nodes : Numbers) : Type 0 where
  pub first : nodes.first ≡ node_start geom
  pub count : nodes.count ≡ 3 * node_third geom

pub record AreData (geom : ImageGeometry) (pages : Numbers) : Type 0 where
  pub first : pages.first ≡ data_start geom
  pub count : pages.count ≡ 3 * data_third geom

-- the addresses of all inodes are among numbers of the node zone, which are no more than a third of it
pub record HasNodes (geom : ImageGeometry) (places : PlaceMap) (nodes : Numbers) : Type 0 where
  pub geometry : IsGeometry geom
  pub zone : AreNodes geom nodes
  pub few : set.len nodes.members ≤ node_third geom
  pub all : (ino : ℕ) (place : Place) → map.get places ino ≡ Some place → set.contains nodes.members place.at ≡ true

-- the addresses of all pages are among numbers of the data zone, which are no more than a third of it
pub record HasPages (geom : ImageGeometry) (places : PlaceMap) (pages : Numbers) : Type 0 where
  pub geometry : IsGeometry geom
  pub zone : AreData geom pages
  pub few : set.len pages.members ≤ data_third geom
  pub all : (ino page : ℕ) (place : Place) → map.get places ino ≡ Some place → page_at place page ≢ 0 → set.contains pages.members (page_at place page) ≡ true

-- the addresses of a file's pages were put among others
pub record InsertsPages (place : Place) (numbers after : Numbers) : Type 0 where
  pub first : after.first ≡ numbers.first
  pub count : after.count ≡ numbers.count
  pub few : set.len after.members ≤ set.len numbers.members + pages_of_place place
  pub kept : (at : ℕ) → set.contains numbers.members at ≡ true → set.contains after.members at ≡ true
  pub has : (page : ℕ) → page_at place page ≢ 0 → set.contains after.members (page_at place page) ≡ true
