use Rattle.std.proofs.Common.{rules}
use Rattle.f2_seat_lock.proofs.Steps.{gives_turn}
use Rattle.f2_seat_lock.proofs.lock.SeatLock.give_turn.Goals as goal

pub swap-requires : goal.swap-requires
swap-requires g c = let h = c.requires.held in (search rules, search rules, gives_turn _ _ _ _ _ _ _ 0 0 h.1 h.2)
