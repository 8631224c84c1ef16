use Rattle.f2_plain_plan.proofs.ZoneSteps.{PagesSoFar}
use Rattle.f2_plain_plan.specs.Zones.{places_at}
use Rattle.f2_plain_plan.proofs.zones.pages_of.Given as goal

abbrev pub invariant-loop-place : goal.invariant-loop-place
invariant-loop-place l = PagesSoFar (places_at l.place-items) l.place-index l.initial.pages l.pages
