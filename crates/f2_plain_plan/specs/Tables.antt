-- One copy of the node address table.
use Rattle.std.specs.Prelude.{◌≡◌, ℕ, ◌+◌, ◌*◌, ◌<◌, Bool, List, ◌++◌, map as map_list}
use Rattle.std.specs.FinMap as map
use Rattle.std.specs.List.{range_with_len}
use Rattle.f2_format.specs.Geometry.{ImageGeometry, ENTRIES_A_NAT_BLOCK, nat_address}
use Rattle.f2_format.specs.Nat.{nat_entry}
use Rattle.f2_laid.specs.Laid.{PlaceMap, at_of}
use Rattle.f2_laid.specs.Planned.{Writes}
use Rattle.f2_laid.specs.declared.planned.Planned.{Planned}

-- the bytes of a block of the table: the address of each of its nids
abbrev pub IsTableBlock : PlaceMap → ℕ → List ℕ → Type 0
IsTableBlock places block bytes =
    (place : ℕ) → place < ENTRIES_A_NAT_BLOCK → (nat_entry bytes place).1 ≡ at_of (map.get places (ENTRIES_A_NAT_BLOCK * block + place))

-- a block of the table is planned
pub record WritesEntries (geom : ImageGeometry) (second : Bool) (places : PlaceMap) (plan : List Planned) (block : ℕ) : Type 0 where
  pub bytes : List ℕ
  pub written : Writes plan (nat_address geom block second) bytes
  pub entries : IsTableBlock places block bytes

-- the blocks of the table below `end` were planned, in their order
pub record AddsTables (geom : ImageGeometry) (second : Bool) (places : PlaceMap) (end : ℕ) (blocks blocks_after : List Planned) : Type 0 where
  pub more : List Planned
  pub added : blocks_after ≡ blocks ++ more
  pub ats : map_list (λ (one : Planned). one.at) more ≡ map_list (λ block. nat_address geom block second) (range_with_len 0 end)
  pub tables : (block : ℕ) → block < end → WritesEntries geom second places more block
