use Rattle.std.proofs.Common.{◌∙◌, sym, subst, arith}
use Rattle.f2_plain_plan.proofs.ZoneSteps.{InsertsSoFar, page_more, page_none}
use Rattle.f2_plain_plan.proofs.zones.insert_pages.Goals as goal
use Rattle.f2_plain_plan.proofs.zones.insert_pages.Goals.{then-at-ne0, else-at-ne0}

pub loop-at-preserved : goal.loop-at-preserved
loop-at-preserved c =
    elim c.if-at-ne0.branch [
      | then-at-ne0 w ↦ subst (InsertsSoFar c.args.place.now _ c.args.pages.now) (sym (w.pages-is ∙ w.insert.ensures)) (page_more c.args.place.now c.loop-at.at-index c.args.pages.now c.loop-at.pages (omega arith) w.if-at-ne0.true c.loop-at.invariant)
      | else-at-ne0 w ↦ subst (InsertsSoFar c.args.place.now _ c.args.pages.now) (sym w.pages-is) (page_none c.args.place.now c.loop-at.at-index c.args.pages.now c.loop-at.pages (omega arith) w.if-at-ne0.false c.loop-at.invariant)
    ]
