-- A table of one block, and its disk, as the tests hold them.
use Rattle.std.specs.Prelude.{◌≡◌, ℕ, List, length, IsSome}
use Rattle.f2_disk.specs.Contents.{alone}
use Rattle.f2_format.specs.Geometry.{ImageGeometry}
use Rattle.f2_nat_cache.specs.Table.{IsKept, Table, held_block}

-- the sizes of the smallest image
abbrev pub smallest : ImageGeometry
smallest = record { blocks = 128; nat = 1 }

-- what a read asks of both
pub record IsReady (table : Table) (disk : List (List ℕ)) : Type 0 where
  pub geom : table.geom ≡ smallest
  pub device : length disk ≡ 128
  pub kept : IsKept table (alone disk)

-- the block is held
pub record IsHeld (table : Table) : Type 0 where
  pub geom : table.geom ≡ smallest
  pub held : IsSome (held_block table 0)
