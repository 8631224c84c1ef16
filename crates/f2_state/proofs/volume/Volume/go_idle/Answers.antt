use Rattle.std.proofs.Common.{◌≡◌, Some, None, sym, subst, ap, ◌∙◌}
use Rattle.std.specs.Prelude.{Option, IfNone}
use Rattle.std.specs.Option.{option_map}
use Rattle.f2_flights.specs.Parts.{flight_of}
use Rattle.f2_model.specs.declared.events.Answer.TheVariants.{Stepped}
use Rattle.f2_model.specs.declared.events.Event.TheVariants.{Go}
use Rattle.f2_model.specs.declared.replies.Reply.TheVariants as reply
use Rattle.f2_model.specs.declared.replies.Step.{Step}
use Rattle.f2_model.specs.declared.replies.Step.TheVariants as step
use Rattle.f2_state.specs.Following.{Follows}
use Rattle.f2_state.specs.Idling.{AsksMore}
use Rattle.f2_state.proofs.Idle.{none_follows, again_follows, left_follows, left_volume, still_open}
use Rattle.f2_state.proofs.volume.Volume.go_idle.Goals as goal

pub returns-in_default-clause-follows : goal.returns-in_default-clause-follows
returns-in_default-clause-follows g c =
    subst (λ old. Follows g.D.Disk.contents g.D.Disk.meter old old (Go c.args.seat) (Stepped step.None)) c.self.view_is
    (none_follows g.D.Disk.contents g.D.Disk.meter _ c.args.seat (sym c.flight.ensures ∙ ap (λ o. option_map flight_of o) c.in_default.is))

pub invariant_of-self : goal.invariant_of-self
invariant_of-self g c =
    left_volume g.D.Disk.contents g.D.Disk.meter _ c.args.seat (flight_of c.in-Some.flight) (sym c.flight.ensures ∙ ap (λ o. option_map flight_of o) c.in-Some.is) c.in-Shut.is c.leave.new.self c.leave.ensures c.self.invariant

pub returns-in-Shut-clause-follows : goal.returns-in-Shut-clause-follows
returns-in-Shut-clause-follows g c =
    let was = c.self.inside in
    subst (λ old. Follows g.D.Disk.contents g.D.Disk.meter old
    (record { disk = was.disk; geometry = was.geometry; mode = was.mode; files = c.leave.new.self; pages = was.pages; history = was.history }) (Go c.args.seat) (Stepped (step.Replied reply.Closed))) c.self.view_is
    (left_follows g.D.Disk.contents g.D.Disk.meter _ c.args.seat (flight_of c.in-Some.flight) (sym c.flight.ensures ∙ ap (λ o. option_map flight_of o) c.in-Some.is) c.in-Shut.is c.leave.new.self c.leave.ensures)

pub returns-in_err-position-clause-more : goal.returns-in_err-position-clause-more
returns-in_err-position-clause-more g c =
    subst (λ (o : Option Step). IfNone o (AsksMore c.args.self.now c.args.seat)) (sym c.from_residual.ensures)
    (subst (λ volume. AsksMore volume c.args.seat) c.self.view_is (record {
      flight = flight_of c.in-Some.flight;
      in_flight = sym c.flight.ensures ∙ ap (λ o. option_map flight_of o) c.in-Some.is;
      not_shut = still_open c.self.inside.mode c.in_default-mode.not-Shut;
      waits_for_none = sym c.waits_for.ensures ∙ c.in_err-position.was;
    }))

pub returns-clause-follows : goal.returns-clause-follows
returns-clause-follows g c =
    subst (λ old. Follows g.D.Disk.contents g.D.Disk.meter old old (Go c.args.seat) (Stepped (step.Again c.in_ok-position.position))) c.self.view_is
    (again_follows g.D.Disk.contents g.D.Disk.meter _ c.args.seat (flight_of c.in-Some.flight) c.in_ok-position.position
    (sym c.flight.ensures ∙ ap (λ o. option_map flight_of o) c.in-Some.is) (still_open c.self.inside.mode c.in_default-mode.not-Shut) (sym c.waits_for.ensures ∙ c.in_ok-position.was))
