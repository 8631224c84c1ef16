use Rattle.std.proofs.Common.{◌≡◌, ◌∙◌, refl, sym, ap, Some, None}
use Rattle.f2_model.specs.Call.{effect, answer, space_refusal}
use Rattle.f2_model.specs.declared.bounds.Limits.{Limits}
use Rattle.f2_model.specs.declared.requests.Request.{Request}
use Rattle.f2_reference.proofs.BeginReplies.{plain_space}
use Rattle.f2_reference.proofs.BeginTurns.{on_some, did_told, effect_begun}
use Rattle.f2_reference.proofs.begins.call_at_once.Goals as goal

pub returns-in-Some-clause-ok : goal.returns-in-Some-clause-ok
returns-in-Some-clause-ok c =
    let old = c.args.plain.now in
    let request = c.args.request in
    let refused = c.in-Some.refused in
    let after = c.in_ok-after.ensures ∙ ap (λ (one : Request). effect c.live.result.now one c.limits-limits.result.nids) c.get.ensures ∙ ap (λ live. effect live request c.limits-limits.result.nids) c.live.ensures ∙ ap (λ (limits : Limits). effect old.state.live request limits.nids) c.limits-limits.ensures in
    let full : space_refusal old.limits (effect old.state.live request old.limits.nids) ≡ Some refused = (λ i. space_refusal (sym c.limits-limits.ensures i) (sym after i)) ∙ sym c.in_ok-refused.ensures ∙ c.in-Some.is in
    did_told c.args.choices old c.answer_alone.new.plain c.args.seat request c.answer_alone.result _ refused
    (plain_space old.limits (effect old.state.live request old.limits.nids) refused full)
    (on_some (space_refusal old.limits (effect old.state.live request old.limits.nids)) _ _ refused full refl) c.answer_alone.ensures.replied c.answer_alone.ensures.ok

pub returns-clause-ok : goal.returns-clause-ok
returns-clause-ok c =
    let old = c.args.plain.now in
    let request = c.args.request in
    let after = c.in_ok-after.ensures ∙ ap (λ (one : Request). effect c.live.result.now one c.limits-limits.result.nids) c.get.ensures ∙ ap (λ live. effect live request c.limits-limits.result.nids) c.live.ensures ∙ ap (λ (limits : Limits). effect old.state.live request limits.nids) c.limits-limits.ensures in
    let room : space_refusal old.limits (effect old.state.live request old.limits.nids) ≡ None = (λ i. space_refusal (sym c.limits-limits.ensures i) (sym after i)) ∙ sym c.in_ok-refused.ensures ∙ c.in_default.is in
    effect_begun c.args.choices old c.take_effect.new.plain c.args.seat request c.in_ok-reply.reply c.outcome-outcome.result room
    (c.in_ok-reply.ensures ∙ ap (λ (one : Request). answer c.live-2.result.now one) c.get-2.ensures ∙ ap (λ live. answer live request) c.live-2.ensures) c.outcome-outcome.ensures c.in_ok-take_effect.ensures.ok
