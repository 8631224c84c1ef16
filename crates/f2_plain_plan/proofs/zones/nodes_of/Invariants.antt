use Rattle.f2_plain_plan.proofs.ZoneSteps.{NodesSoFar}
use Rattle.f2_plain_plan.specs.Zones.{places_at}
use Rattle.f2_plain_plan.proofs.zones.nodes_of.Given as goal

abbrev pub invariant-loop-place : goal.invariant-loop-place
invariant-loop-place l = NodesSoFar (places_at l.place-items) l.place-index l.initial.nodes l.nodes
