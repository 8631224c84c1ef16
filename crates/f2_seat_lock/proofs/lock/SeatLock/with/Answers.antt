use Rattle.std.proofs.Common.{ℕ, List, sym, subst, ◌∙◌}
use Rattle.f2_seat_lock.specs.Known.{Known, Holds}
use Rattle.f2_seat_lock.specs.Rule.{known}
use Rattle.f2_seat_lock.specs.Turn.{IsPass}
use Rattle.f2_seat_lock.proofs.Passes.{after_it_pass, held, holds_of}
use Rattle.f2_seat_lock.proofs.lock.SeatLock.with.Goals as goal

pub invariant_of-pass : goal.invariant_of-pass
invariant_of-pass g c =
    let h = held g.V.Parts.log g.V.Parts.part g.V.Parts.marks_in _ _ _ _ _ _ c.take_turn.ensures.taken c.run-marks.ensures.view c.run-marks.ensures.moves c.raise.ensures.raised c.give_turn.ensures.given in
    subst (IsPass _ _) (sym h.after) (after_it_pass g.V.Parts.log g.V.Parts.part _ _ _ h.x h.y c.pass.invariant)

pub returns : goal.returns
returns g c =
    let h = held g.V.Parts.log g.V.Parts.part g.V.Parts.marks_in _ _ _ _ _ _ c.take_turn.ensures.taken c.run-marks.ensures.view c.run-marks.ensures.moves c.raise.ensures.raised c.give_turn.ensures.given in
    let step : ℕ → g.row.V-Part.Denot → List g.row.V-Entry.Denot → g.row.V-Part.Denot → List g.row.V-Entry.Denot → Type 0 =
    λ seat part log left new_log. g.J.Job.does seat c.args.job.now part log c.run-marks.new.job left new_log in
    let same = c.give_turn.ensures.seat.0 ∙ (c.raise.ensures.seat.0 ∙ (c.run-marks.ensures.seat.0 ∙ c.take_turn.ensures.seat.0)) in
    subst (λ (k : Known g.row.V-Part.Denot g.row.V-Entry.Denot). Holds g.V.Parts.marks_in (step k.seat) k (known c.give_turn.new.token.table_id c.give_turn.new.token.me.0)) c.pass.view_is
    (holds_of g.V.Parts.log g.V.Parts.part g.V.Parts.marks_in c.pass.inside.token.table_id c.give_turn.new.token.table_id c.pass.inside.seat c.pass.inside.left c.pass.inside.token.me c.give_turn.new.token.me step same c.pass.invariant
    (record { x = h.x; y = h.y; fits = h.fits; did = (h.did.0, h.did.1); after = h.after }))
