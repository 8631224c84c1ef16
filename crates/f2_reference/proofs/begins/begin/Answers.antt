use Rattle.std.proofs.Common.{◌≡◌, ◌<◌, ◌≤◌, ◌∙◌, refl, sym, ap, subst, arith, true, false, Some, None, IfOk}
use Rattle.f2_model.specs.declared.events.Event.TheVariants.{Begin}
use Rattle.f2_model.specs.declared.events.Answer.TheVariants.{Began}
use Rattle.f2_model.specs.declared.requests.Request.{Request}
use Rattle.f2_reference.specs.Choosing.{ComesTo}
use Rattle.f2_reference_calls.proofs.Results.{ok_after}
use Rattle.f2_reference.proofs.BeginTurns.{answered_only, begun_comes, closed_step, spent_step, barred_step}
use Rattle.f2_reference.proofs.begins.begin.Goals as goal

pub returns-then-not-is_up-clause-ok : goal.returns-then-not-is_up-clause-ok
returns-then-not-is_up-clause-ok c =
    let old = c.args.plain.now in
    begun_comes c.args.choices old old c.args.seat c.args.request _ c.requires.seat
    (answered_only c.args.choices old old c.args.seat c.args.request _ _ refl (closed_step old.limits old.state c.args.seat c.args.request _ (sym c.is_up.ensures ∙ c.if-not-is_up.true) refl))

pub returns-then-entries-ge-MOST_ENTRIES-clause-ok : goal.returns-then-entries-ge-MOST_ENTRIES-clause-ok
returns-then-entries-ge-MOST_ENTRIES-clause-ok c =
    let old = c.args.plain.now in
    begun_comes c.args.choices old old c.args.seat c.args.request _ c.requires.seat
    (answered_only c.args.choices old old c.args.seat c.args.request _ _ refl
    (spent_step old.limits old.state c.args.seat c.args.request _ (sym c.is_up.ensures ∙ c.if-not-is_up.false) (omega (arith, c.entries.ensures, c.if-entries-ge-MOST_ENTRIES.true)) refl))

pub returns-in-Some-clause-ok : goal.returns-in-Some-clause-ok
returns-in-Some-clause-ok c =
    let old = c.args.plain.now in
    begun_comes c.args.choices old old c.args.seat c.args.request _ c.requires.seat
    (answered_only c.args.choices old old c.args.seat c.args.request _ _ refl
    (barred_step old.limits old.state c.args.seat c.args.request _ c.in-Some.by (sym c.is_up.ensures ∙ c.if-not-is_up.false) (omega (arith, c.entries.ensures, c.if-entries-ge-MOST_ENTRIES.false)) (sym c.in-Some.ensures) refl))

pub returns-clause-ok : goal.returns-clause-ok
returns-clause-ok c =
    let old = c.args.plain.now in
    let new = c.begin_free.new.plain in
    let boxed = c.in_ok-request.ensures in
    ok_after c.begin_free.result
    (λ begun by. subst (λ (request : Request). ComesTo c.args.choices old new (Begin c.args.seat request) (Began begun)) boxed
    (begun_comes c.args.choices old new c.args.seat c.in_ok-request.request begun c.requires.seat by))
    c.begin_free.ensures.ok
