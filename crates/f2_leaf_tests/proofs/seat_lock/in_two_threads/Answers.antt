use Rattle.std.proofs.Common.{ap, ◌∙◌}
use Rattle.f2_seat_lock.specs.Map.{places, either_place}
use Rattle.f2_seat_lock.proofs.Maps.{places-together}
use Rattle.f2_leaf_tests.proofs.seat_lock.in_two_threads.Goals as goal

pub returns-clause-places : goal.returns-clause-places
returns-clause-places g c =
    let made = c.join-first.ensures in
    ap (λ k. places k.parts) c.join.ensures.joined ∙ (places-together c.join-first.result.0.parts c.join-first.result.1.parts ∙ (λ i. either_place (made.first.1 i) (made.second.1 i)))
