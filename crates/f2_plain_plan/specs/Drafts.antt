-- Places for the inodes and pages of a tree, and the blocks of the pages.
use Rattle.std.specs.Prelude.{◌≡◌, ◌≢◌, ℕ, ◌<◌, ◌≤◌, List, map as map_list, length, All, Option, Some}
use Rattle.std.specs.List.{sum_by}
use Rattle.std.specs.FinMap as map
use Rattle.f2_bitset.specs.Numbers.{IsLeastMissing}
use Rattle.f2_format.specs.Geometry.{ImageGeometry, node_third, data_third}
use Rattle.f2_format.specs.Offsets.{inode_pages}
use Rattle.f2_image.specs.Reached.{AllDiffer}
use Rattle.f2_laid.specs.Laid.{PlaceMap, page_at, pages_of_place, IsPlaced, HoldsContent}
use Rattle.f2_laid.specs.Planned.{AreApart, WritesPage}
use Rattle.f2_laid.specs.declared.places.Place.{Place}
use Rattle.f2_laid.specs.declared.planned.Planned.{Planned}
use Rattle.f2_model.specs.Tree.{Rows}
use Rattle.f2_model.specs.declared.rows.Row.{Row}
use Rattle.f2_plain_plan.specs.Pages.{AddsPages, with_member}
use Rattle.f2_plain_plan.specs.declared.drafts.Draft.{Draft}

-- a file was given a place, and its pages were planned
pub record AddsRow (ino : ℕ) (contents : ℕ → Option (List ℕ)) (before after : Draft) : Type 0 where
  pub place : Place
  pub free : IsLeastMissing before.nodes place.at
  pub now : after.nodes ≡ with_member before.nodes place.at
  pub places : after.places ≡ map.insert before.places ino place
  pub pages : AddsPages contents inode_pages before.pages after.pages before.blocks.items after.blocks.items place.addresses

-- the pages of a row are planned
pub record WritesPages (plan : List Planned) (tree : Rows) (row : Row) (places : PlaceMap) : Type 0 where
  pub place : Place
  pub there : map.get places row.ino ≡ Some place
  pub contents : ℕ → Option (List ℕ)
  pub content : HoldsContent tree row contents
  pub pages : (page : ℕ) → page < inode_pages → WritesPage plan (page_at place page) (contents page)

-- a block is planned at the address of a page
abbrev pub IsPageOf : PlaceMap → Planned → Type 0
IsPageOf places one = (ino page : ℕ) × (place : Place) × (map.get places ino ≡ Some place) × (page_at place page ≢ 0) × (one.at ≡ page_at place page)

-- each row of a tree has a place away from the old ones, and its pages are planned
pub record IsDraftOf (geom : ImageGeometry) (tree : Rows) (old places : PlaceMap) (blocks : List Planned) : Type 0 where
  pub placed : IsPlaced geom places
  pub apart : AreApart old places
  pub rows : (ino : ℕ) (row : Row) → map.get tree ino ≡ Some row → WritesPages blocks tree row places
  pub only : (ino : ℕ) (place : Place) → map.get places ino ≡ Some place → (row : Row) × map.get tree ino ≡ Some row
  pub files : map.len places ≤ node_third geom
  pub pages : sum_by pages_of_place (map.values places) ≤ data_third geom
  pub few : length blocks ≤ data_third geom
  pub within : All (IsPageOf places) blocks
  pub once : AllDiffer (map_list (λ (one : Planned). one.at) blocks)
