use Rattle.std.proofs.Common.{◌≡◌, ◌≤◌, ◌<◌, ◌^◌, drop}
use Rattle.f2_format.specs.Packing.{blocks_of_names, place_after_all}
use Rattle.f2_tree_size.proofs.Blocks.{names_of}
use Rattle.f2_tree_size.proofs.directories.size_of_directory.Given as goal

-- the names that are left fill as many blocks from here on as all of them from the start
abbrev pub invariant-loop-dent : goal.invariant-loop-dent
invariant-loop-dent l = record {
  whole : blocks_of_names (names_of l.dent-items (λ dent. dent.name)) ≡ (place_after_all (l.blocks, l.taken) (names_of (drop l.dent-index l.dent-items) (λ dent. dent.name))).0;
  few : l.blocks ≤ l.dent-index;
  short : l.taken < 2 ^ 62;
}
