use Rattle.std.proofs.Common.{◌≡◌, ◌++◌, ◌-◌, map as map_list}
use Rattle.std.specs.List.{flat_map}
use Rattle.f2_script.specs.Trees.{child_path, lines_below}
use Rattle.f2_script.proofs.tree_texts.+push_below.Given as goal

abbrev pub decreases-push_below : goal.decreases-push_below
decreases-push_below l = l.levels

abbrev pub invariant-loop-child : goal.invariant-loop-child
invariant-loop-child l =
    l.text.items ++ flat_map (λ child. lines_below (l.levels - 1) l.tree (child_path l.path child) child) (map_list (λ r. r.now) l.child-iterator)
    ≡ l.fn.text.items ++ lines_below l.levels l.tree l.path l.row
