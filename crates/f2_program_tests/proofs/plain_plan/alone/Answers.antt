use Rattle.std.proofs.Common.{◌∙◌, ap, sym, subst}
use Rattle.std.specs.FinMap as map
use Rattle.f2_laid.specs.Laid.{IsStorable, root_row}
use Rattle.f2_model.specs.Tree.{ROOT, Rows}
use Rattle.f2_model.specs.declared.rows.Row.{Row}
use Rattle.f2_plain_plan.proofs.SmallTrees.{alone_storable}
use Rattle.f2_program_tests.proofs.plain_plan.alone.Goals as goal

pub returns : goal.returns
returns c geom geometry =
    let is = c.in_ok-put.ensures.ok ∙ ap (λ (row : Row). map.insert c.new-tree.result row.ino row) c.root.ensures ∙ ap (λ (tree : Rows). map.insert tree ROOT root_row) c.new-tree.ensures in
    subst (λ (tree : Rows). IsStorable geom tree) (sym is) (alone_storable geom geometry)
