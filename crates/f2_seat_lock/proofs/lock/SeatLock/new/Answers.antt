use Rattle.std.proofs.Common.{List, [], ◌∷◌, ◌++◌, length, sym, subst, ap, ◌∙◌}
use Rattle.atomic_table.specs.Table.{opening}
use Rattle.f2_seat_lock.specs.Rule.{Kept, first_view}
use Rattle.f2_seat_lock.specs.Turn.{IsPass}
use Rattle.f2_seat_lock.proofs.Maps.{length-all_parts}
use Rattle.f2_seat_lock.proofs.Steps.{begins}
use Rattle.f2_seat_lock.proofs.Passes.{first_pass}
use Rattle.f2_seat_lock.proofs.lock.SeatLock.new.Goals as goal

pub new-requires : goal.new-requires
new-requires g c =
    let items = c.in_default.ensures.items ∙ ap (λ l. l ++ c.args.value ∷ []) c.new-slots.ensures.items in
    let V = g.V.Parts in
    subst (λ (z : List g.row.V.Denot × g.row.V.Denot). Kept V.log V.part V.marks_in (opening (0 ∷ c.marks-marks.result ∷ []) z.0 (first_view V.log V.part c.args.seats z.1))) (λ i. (sym items i, sym c.of.ensures i))
    (begins V.log V.part V.marks_in c.args.seats c.marks-marks.result c.args.value c.marks-marks.ensures)

pub invariant_of-pass : goal.invariant_of-pass
invariant_of-pass g c = subst (IsPass _ _) (sym c.in-Ok.ensures.ok.4) (first_pass g.V.Parts.log g.V.Parts.part c.args.seats c.of.result.value c.requires.0)

pub returns-in-Ok-clause-lock : goal.returns-in-Ok-clause-lock
returns-in-Ok-clause-lock g c =
    let made = c.in-Ok.ensures.ok in
    let seats = ap (λ m. length m.0.parts) made.4 ∙ length-all_parts (g.V.Parts.part c.of.result.value) c.args.seats in
    λ i. record { table = made.2 i; seats = seats i }
