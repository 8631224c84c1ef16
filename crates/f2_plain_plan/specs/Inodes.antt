-- The inodes of rows.
use Rattle.std.specs.Prelude.{◌≡◌, ℕ, ◌≤◌, List, ◌++◌, map as map_list, length, All, Some}
use Rattle.std.specs.FinMap as map
use Rattle.f2_format.specs.Footer.{footer_version}
use Rattle.f2_format.specs.Inode.{NAME_BYTES, SIZE_LIMIT}
use Rattle.f2_laid.specs.Laid.{PlaceMap, at_of, IsInodeOf}
use Rattle.f2_laid.specs.Planned.{Writes}
use Rattle.f2_laid.specs.declared.places.Place.{Place}
use Rattle.f2_laid.specs.declared.planned.Planned.{Planned}
use Rattle.f2_model.specs.declared.rows.Row.{Row}

-- a row has a place, and its size and its name fit an inode
pub record HasInode (places : PlaceMap) (row : Row) : Type 0 where
  pub place : Place
  pub there : map.get places row.ino ≡ Some place
  pub size : row.size ≤ SIZE_LIMIT
  pub name : length row.name ≤ NAME_BYTES

-- the inode of a row is planned at its place
pub record WritesInode (places : PlaceMap) (plan : List Planned) (row : Row) : Type 0 where
  pub place : Place
  pub there : map.get places row.ino ≡ Some place
  pub block : List ℕ
  pub inode : IsInodeOf row place block
  pub unlogged : footer_version block ≡ 0
  pub written : Writes plan place.at block

-- the inodes of rows were planned, in the order of the rows
pub record AddsInodes (rows : List Row) (places : PlaceMap) (blocks blocks_after : List Planned) : Type 0 where
  pub more : List Planned
  pub added : blocks_after ≡ blocks ++ more
  pub ats : map_list (λ (one : Planned). one.at) more ≡ map_list (λ (row : Row). at_of (map.get places row.ino)) rows
  pub inodes : All (WritesInode places more) rows
