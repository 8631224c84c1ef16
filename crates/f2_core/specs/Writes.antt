-- How many writes the events of a core make at most.
use Rattle.std.specs.Prelude.{ℕ, ◌+◌}
use Rattle.f2_format.specs.Geometry.{ImageGeometry, data_start}
use Rattle.f2_plain_save.specs.Saves.{most_writes}

-- a checkpoint: a third of each zone, one copy of the node address table, and a pack with its head, summary and tail
abbrev pub checkpoint_writes : ImageGeometry → ℕ
checkpoint_writes geom = most_writes geom + 1

-- a new image: all blocks before the data zone, both superblocks, and a checkpoint of the root alone
abbrev pub making_writes : ImageGeometry → ℕ
making_writes geom = data_start geom + 2 + (geom.nat + 4)
