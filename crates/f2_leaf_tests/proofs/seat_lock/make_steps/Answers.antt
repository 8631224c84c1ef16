use Rattle.std.proofs.Common.{ap, ◌∙◌}
use Rattle.f2_seat_lock.specs.Map.{places}
use Rattle.f2_seat_lock.proofs.Maps.{places-with_part}
use Rattle.f2_leaf_tests.proofs.seat_lock.make_steps.Goals as goal

pub loop-number-preserved : goal.loop-number-preserved
loop-number-preserved g c =
    let h = c.with.ensures in
    let i = c.loop-number.invariant in
    record { lock = ap (λ k. k.lock) h.after ∙ i.lock; places = ap (λ k. places k.parts) h.after ∙ (places-with_part _ _ _ _ h.own ∙ i.places) }
