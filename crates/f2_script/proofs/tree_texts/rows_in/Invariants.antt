use Rattle.std.proofs.Common.{◌≡◌, map as map_list}
use Rattle.std.specs.List.{fold, filter}
use Rattle.std.specs.Ordering.{nat_cmp}
use Rattle.std.specs.Cmp.Lexicographic.{slice_cmp}
use Rattle.std.specs.FinMap as map
use Rattle.f2_model.specs.Tree.{is_in}
use Rattle.f2_model.specs.declared.rows.Row.{Row}
use Rattle.f2_script.specs.Trees.{rows_in}
use Rattle.f2_script.proofs.tree_texts.rows_in.Given as goal

abbrev pub invariant-loop-row : goal.invariant-loop-row
invariant-loop-row l =
    (m : map.FinMap (slice_cmp nat_cmp) Row)
    × (map_list (λ e. (e.0.now, e.1.now)) l.rows.entries ≡ map.entries m)
    × (fold (λ rows row. map.insert rows row.name row) m (filter (is_in l.directory) l.row-iterator) ≡ rows_in l.tree l.directory)
