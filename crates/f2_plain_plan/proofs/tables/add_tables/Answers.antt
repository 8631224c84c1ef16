use Rattle.std.proofs.Common.{◌∙◌, ◌+◌, ◌++◌, List, [], ◌∷◌, sym, subst, ap}
use Rattle.f2_laid.specs.declared.planned.Planned.{Planned}
use Rattle.f2_plain_plan.specs.Tables.{AddsTables}
use Rattle.f2_plain_plan.proofs.TableSteps.{table_more}
use Rattle.f2_plain_plan.proofs.tables.add_tables.Goals as goal

pub loop-block-preserved : goal.loop-block-preserved
loop-block-preserved c =
    let here = c.in_ok-push.ensures.items ∙ ap (λ at. c.loop-block.blocks.items ++ record { at = at; block = c.table_block.result } ∷ []) c.nat_at.ensures.value in
    subst (λ (l : List Planned). AddsTables c.args.geometry.now c.args.second c.args.places.now (c.loop-block.block + 1) c.args.blocks.now.items l) (sym here)
    (table_more c.args.geometry.now c.args.second c.args.places.now c.loop-block.block c.args.blocks.now.items c.loop-block.blocks.items c.table_block.result c.loop-block.invariant c.table_block.ensures)
