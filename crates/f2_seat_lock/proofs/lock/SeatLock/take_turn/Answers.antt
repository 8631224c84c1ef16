use Rattle.std.proofs.Common.{rules, ap, ◌∙◌}
use Rattle.f2_seat_lock.specs.Map.{part_of}
use Rattle.f2_seat_lock.proofs.Steps.{takes_turn, never_free, waited_for}
use Rattle.f2_seat_lock.proofs.lock.SeatLock.take_turn.Goals as goal

pub compare_exchange-requires : goal.compare_exchange-requires
compare_exchange-requires g c = (search rules, search rules, takes_turn _ _ _ _ _ _ _ 0 0 never_free c.requires.rests.0 c.requires.own)

pub swap-requires : goal.swap-requires
swap-requires g c =
    let i = c.loop.invariant in let own = c.requires.own in
    (search rules, search rules, takes_turn _ _ _ _ _ _ _ 0 0 waited_for (ap (λ m. m.1) i.me ∙ c.requires.rests.0) (own.0, ap (λ m. part_of m.0.parts m.0.seat) i.me ∙ own.1))
