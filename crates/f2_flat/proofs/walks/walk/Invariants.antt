use Rattle.std.proofs.Common.{◌≡◌, Some, drop}
use Rattle.std.specs.FinMap as map
use Rattle.f2_model.specs.Tree.{walk, walked}
use Rattle.f2_flat.proofs.walks.walk.Given as goal

-- the names that are left lead from the row, which is one of the tree, where the whole path leads from the root
abbrev pub invariant-loop-name : goal.invariant-loop-name
invariant-loop-name l = record {
  leads : walk l.tree l.path ≡ walked l.tree (drop l.name-index l.path) l.row;
  there : map.get l.tree l.row.ino ≡ Some l.row;
}
