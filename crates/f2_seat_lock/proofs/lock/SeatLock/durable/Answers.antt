use Rattle.std.proofs.Common.{rules, sym, subst}
use Rattle.f2_seat_lock.specs.Turn.{IsPass}
use Rattle.f2_seat_lock.proofs.Steps.{tells}
use Rattle.f2_seat_lock.proofs.Passes.{told_pass}
use Rattle.f2_seat_lock.proofs.lock.SeatLock.durable.Goals as goal

pub load-requires : goal.load-requires
load-requires g c = (search rules, search rules, tells _ _ _ g.met.V.Parts.never_falls _ _ _ 0 0)

pub invariant_of-pass : goal.invariant_of-pass
invariant_of-pass g c = subst (IsPass _ _) (sym c.load.ensures.2.after) (told_pass _ _ _ _ c.pass.invariant)
