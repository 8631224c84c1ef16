use Rattle.std.proofs.Common.{false, [], ◌∷◌, length-append, refl, ap, ◌∙◌, arith}
use Rattle.std.specs.FinSet as set
use Rattle.f2_space.specs.Space.{Space}
use Rattle.f2_warm_log.specs.declared.positions.Position.{Position}
use Rattle.f2_warm_log.specs.declared.positions.Slot.{Slot}
use Rattle.f2_warm_log.proofs.Chained.{IsChained-push, IsLowestOpen-push}
use Rattle.f2_warm_log.proofs.DrawnLemmas.{contains-one, len-remove_one}
use Rattle.f2_warm_log.proofs.Steps.{IsInStep-reserved}
use Rattle.f2_warm_log.proofs.warm_log.WarmLog.reserve.Goals as goal

pub begin_write-requires-clause-drawn : goal.begin_write-requires-clause-drawn
begin_write-requires-clause-drawn c left =
    let step = rw (← c.self.view_is) at c.requires.in_step in
    contains-one _ _ (step.ahead (omega (arith, step.counted)))

pub draw_ahead-next-requires-clause-none_drawn : goal.draw_ahead-next-requires-clause-none_drawn
draw_ahead-next-requires-clause-none_drawn c =
    let step = rw (← c.self.view_is) at c.requires.in_step in
    ap (λ (z : Space). set.len z.drawn) c.if-not-begin_write.ensures.written
    ∙ len-remove_one _ _ (step.ahead (omega (arith, step.counted, c.if-not-begin_write.ensures.room)))

pub invariant_of-self : goal.invariant_of-self
invariant_of-self c =
    let is = c.self.invariant in
    let items = c.self.inside.positions.items in
    let position : Position = record { at = c.self.inside.next; next = c.draw_ahead-next.result; submitted = false } in
    let step = rw (← c.self.view_is) at c.requires.in_step in
    let room = rw (← c.self.view_is) at c.requires.room in
    rw c.push_reserved.ensures.items record {
      is_log = record {
        chained = IsChained-push items c.self.inside.next position is.is_log.chained refl;
        within = omega (arith, step.counted, room, c.if-not-begin_write.ensures.room, length-append items (position ∷ []));
        fits = is.is_log.fits;
      };
      lowest = IsLowestOpen-push items position c.self.inside.gap refl is.lowest;
      places_enough = omega (arith, is.places_enough, c.push_reserved.ensures.capacity);
    }

pub returns-clause-in_step : goal.returns-clause-in_step
returns-clause-in_step c =
    let slot : Slot = record { at = c.self.inside.next; next = c.draw_ahead-next.result; position = c.logged-position.result } in
    let step = rw (← c.self.view_is) at c.requires.in_step in
    let draws = rw c.if-not-begin_write.ensures.written at c.draw_ahead-next.ensures in
    rw c.push_reserved.ensures.items
    (IsInStep-reserved c.args.zone.now c.draw_ahead-next.new.zone _ slot c.args.promised step refl c.if-not-begin_write.ensures.room draws)
