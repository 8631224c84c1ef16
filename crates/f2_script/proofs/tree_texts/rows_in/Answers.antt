use Rattle.std.proofs.Common.{◌∙◌, ap, arith}
use Rattle.std.proofs.lemmas.Grind.{common_steps}
use Rattle.std.specs.FinMap as map
use Rattle.f2_script.proofs.TreeLines.{shown, shown_more, none_shown}
use Rattle.f2_script.proofs.tree_texts.rows_in.Goals as goal

pub loop-row-init : goal.loop-row-init
loop-row-init c = (map.empty, ap shown c.new-rows.ensures.empty ∙ none_shown, grind (arith, common_steps))

pub loop-row-preserved-in_ok-insert : goal.loop-row-preserved-in_ok-insert
loop-row-preserved-in_ok-insert c =
    let m = c.loop-row.invariant.0 in
    let key = c.as_slice.ensures in (
      map.insert m c.in-Some.row.now.name c.in-Some.row.now,
      ap shown c.in_ok-insert.ensures.entries ∙ shown_more _ m _ _ c.loop-row.invariant.1 ∙ ap (λ name. map.entries (map.insert m name c.in-Some.row.now)) key,
      grind (arith, common_steps),
    )

pub loop-row-preserved : goal.loop-row-preserved
loop-row-preserved c = (c.loop-row.invariant.0, c.loop-row.invariant.1, grind (arith, common_steps))
