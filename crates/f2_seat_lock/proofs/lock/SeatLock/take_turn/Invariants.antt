use Rattle.std.proofs.Common.{◌≡◌}
use Rattle.f2_seat_lock.proofs.lock.SeatLock.take_turn.Given as goal

abbrev pub invariant-loop : goal.invariant-loop
invariant-loop g l = record { table : l.token.table_id ≡ l.fn.token.table_id; id : l.token.id ≡ l.fn.token.id; me : l.token.me ≡ l.fn.token.me }
