use Rattle.std.proofs.Common.{subst}
use Rattle.f2_model.specs.declared.events.Event.TheVariants as event
use Rattle.f2_model.specs.declared.events.Answer.TheVariants as answer
use Rattle.f2_play.specs.Calls.{Goes, is_over}
use Rattle.f2_reference_run.specs.Stages.{Comes}
use Rattle.f2_reference_run.specs.Runs.{Leads}
use Rattle.f2_reference_run.proofs.Playing.{call_at_once, call_in_flight, call_waiting}
use Rattle.f2_reference_run.proofs.player.Player.call.Goals as goal

pub returns-in-Replied : goal.returns-in-Replied
returns-in-Replied c =
    let began = subst (λ b. Comes (event.Begin c.args.seat c.args.request) (answer.Began b) c.args.self.now c.begin.new.self) c.in-Replied.is c.in_ok-reply.ensures in
    call_at_once c.args.seat c.args.request c.in-Replied.reply c.args.self.now c.begin.new.self began

pub returns-in-Replied-2 : goal.returns-in-Replied-2
returns-in-Replied-2 c =
    let began = subst (λ b. Comes (event.Begin c.args.seat c.args.request) (answer.Began b) c.args.self.now c.begin.new.self) c.in-Going.is c.in_ok-reply.ensures in
    let ended = subst (λ s. Leads (Goes is_over c.args.seat s) c.begin.new.self c.go.new.self) c.in-Replied-2.is c.in_ok-reply-in-Going.ensures in
    call_in_flight c.args.seat c.args.request c.in-Replied-2.reply c.in-Going.field-0 c.args.self.now c.begin.new.self c.go.new.self began ended

pub returns-in-Again : goal.returns-in-Again
returns-in-Again c =
    let began = subst (λ b. Comes (event.Begin c.args.seat c.args.request) (answer.Began b) c.args.self.now c.begin.new.self) c.in-Going.is c.in_ok-reply.ensures in
    let ended = subst (λ s. Leads (Goes is_over c.args.seat s) c.begin.new.self c.go.new.self) c.in-Again.is c.in_ok-reply-in-Going.ensures in
    call_waiting c.args.seat c.args.request c.in-Again.position c.in-Going.field-0 c.args.self.now c.begin.new.self c.go.new.self began ended
