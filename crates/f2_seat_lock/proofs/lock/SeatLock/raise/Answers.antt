use Rattle.std.proofs.Common.{rules}
use Rattle.f2_seat_lock.proofs.Steps.{raises}
use Rattle.f2_seat_lock.proofs.lock.SeatLock.raise.Goals as goal

pub fetch_max-requires : goal.fetch_max-requires
fetch_max-requires g c = let h = c.requires.held in (search rules, search rules, raises _ _ _ g.met.V.Parts.never_falls _ _ _ _ _ _ 0 0 h.1 h.2.1 h.2.2 h.2.3)
