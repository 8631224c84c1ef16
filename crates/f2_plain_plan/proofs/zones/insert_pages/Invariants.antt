use Rattle.f2_plain_plan.proofs.ZoneSteps.{InsertsSoFar}
use Rattle.f2_plain_plan.proofs.zones.insert_pages.Given as goal

abbrev pub invariant-loop-at : goal.invariant-loop-at
invariant-loop-at l = InsertsSoFar l.place l.at-index l.initial.pages l.pages
