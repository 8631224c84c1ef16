use Rattle.std.proofs.Common.{ℕ, ◌-◌, ap, ◌∙◌}
use Rattle.f2_seat_lock.specs.Known.{LockId}
use Rattle.f2_seat_lock.specs.Map.{without, only, places, either_place}
use Rattle.f2_seat_lock.proofs.Maps.{whole_of_places}
use Rattle.f2_leaf_tests.proofs.seat_lock.seats_step_beside_each_other.Goals as goal

-- the two maps have the two parts between them
pub close-tally-requires-clause-whole : goal.close-tally-requires-clause-whole
close-tally-requires-clause-whole g c =
    let made = c.in-Ok.ensures in
    let cut = c.split-second.ensures in
    let seats = ap (λ (l : LockId). l.seats) made.lock ∙ made.seats.0 in
    let next = ap (λ (z : ℕ × ℕ). z.0 - z.1) (λ i. (seats i, made.seats.2 i)) in
    whole_of_places c.in_two_threads-all.result.parts 2
    (c.in_two_threads-all.ensures.places
    ∙ ((λ i. either_place (places (cut.rest i).parts) (places (cut.new i).parts)) ∙ (λ i. either_place (places (without (made.parts i) (next i))) (places (only (made.parts i) (next i))))))
