use Rattle.std.proofs.Common.{◌≡◌, ◌≤◌, ◌<◌, ◌^◌, drop}
use Rattle.f2_format.specs.Packing.{blocks_of_names, place_after_all}
use Rattle.f2_reference_calls.proofs.packings.blocks_of_names.Given as goal

-- the names that are left fill as many blocks from here on as all of them from the start
abbrev pub invariant-loop-name : goal.invariant-loop-name
invariant-loop-name l =
    (blocks_of_names l.names ≡ (place_after_all (l.blocks, l.taken) (drop l.name-index l.names)).0)
    × (l.blocks ≤ l.name-index)
    × (l.taken < 2 ^ 62)
