use Rattle.std.proofs.Common.{◌≡◌, drop, map as map_list}
use Rattle.f2_model.specs.State as state
use Rattle.f2_reference_state.specs.Parts.{mark_of}
use Rattle.f2_reference.proofs.mounts.rolled.Given as goal

-- the marks that are left roll the tree on to the whole
abbrev pub invariant-loop-mark : goal.invariant-loop-mark
invariant-loop-mark l = state.rolled l.tree (map_list mark_of (drop l.mark-index l.marks)) ≡ state.rolled l.base (map_list mark_of l.marks)
