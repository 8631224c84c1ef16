use Rattle.std.proofs.Common.{◌≡◌, drop}
use Rattle.f2_model.specs.Tree.{walk, walked}
use Rattle.f2_reference_calls.proofs.walks.walk.Given as goal

-- the names that are left lead from the row where the whole path leads from the root
abbrev pub invariant-loop-name : goal.invariant-loop-name
invariant-loop-name l = walk l.tree l.path ≡ walked l.tree (drop l.name-index l.path) l.row
