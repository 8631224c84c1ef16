use Rattle.std.proofs.Common.{◌≡◌, ◌∙◌, refl, sym, ap, Some, None}
use Rattle.f2_model.specs.Call.{refusal}
use Rattle.f2_model.specs.Step.{freezing}
use Rattle.f2_reference_calls.proofs.Results.{ok_after}
use Rattle.f2_reference.proofs.BeginReplies.{plain_refusal}
use Rattle.f2_reference.proofs.BeginSound.{sound_after}
use Rattle.f2_reference.proofs.BeginTurns.{answered_only, did_told, by_way, refused_step, frozen_step, served_step}
use Rattle.f2_reference.proofs.begins.begin_free.Goals as goal

pub returns-in-Some-clause-ok : goal.returns-in-Some-clause-ok
returns-in-Some-clause-ok c =
    let old = c.args.plain.now in
    let new = c.answer_alone.new.plain in
    let request = c.args.request in
    let told : refusal old.limits old.state.live request ≡ Some c.in-Some.refused = (λ i. refusal (sym c.limits.ensures i) (sym c.live.ensures i) (sym c.get.ensures i)) ∙ sym c.in-Some.ensures in
    did_told c.args.choices old new c.args.seat request c.answer_alone.result _ c.in-Some.refused (plain_refusal old.limits old.state.live request c.in-Some.refused told)
    (refused_step old.limits old.state c.args.seat request _ c.in-Some.refused c.requires.up c.requires.early c.requires.free told refl)
    c.answer_alone.ensures.replied c.answer_alone.ensures.ok

pub returns-in-Some-freezing-clause-ok : goal.returns-in-Some-freezing-clause-ok
returns-in-Some-freezing-clause-ok c =
    let old = c.args.plain.now in
    let request = c.args.request in
    let passed = (λ i. refusal (sym c.limits.ensures i) (sym c.live.ensures i) (sym c.get.ensures i)) ∙ sym c.in_default.ensures in
    let frozen : freezing old.state request ≡ Some c.in-Some-freezing.by = ap (freezing old.state) (sym c.get-2.ensures) ∙ sym c.in-Some-freezing.ensures in
    answered_only c.args.choices old old c.args.seat request _ _ refl
    (frozen_step old.limits old.state c.args.seat request _ c.in-Some-freezing.by c.requires.up c.requires.early c.requires.free passed frozen refl)

pub returns-clause-ok : goal.returns-clause-ok
returns-clause-ok c =
    let old = c.args.plain.now in
    let new = c.serve.new.plain in
    let request = c.args.request in
    let passed = (λ i. refusal (sym c.limits.ensures i) (sym c.live.ensures i) (sym c.get.ensures i)) ∙ sym c.in_default.ensures in
    let thawed : freezing old.state request ≡ None = ap (freezing old.state) (sym c.get-2.ensures) ∙ sym c.in_default-freezing.ensures in
    ok_after c.serve.result
    (λ begun by. by_way c.args.choices old new c.args.seat request begun _ _
    (λ turn is. served_step old.limits old.state c.args.seat request turn c.requires.up c.requires.early c.requires.free passed thawed is) by)
    c.serve.ensures.ok

pub returns-clause-sound : goal.returns-clause-sound
returns-clause-sound c =
    let old = c.args.plain.now in
    let request = c.args.request in
    let passed = (λ i. refusal (sym c.limits.ensures i) (sym c.live.ensures i) (sym c.get.ensures i)) ∙ sym c.in_default.ensures in
    sound_after c.args.choices old c.serve.new.plain c.args.seat request c.serve.result c.requires.sound passed c.serve.ensures.ok c.serve.ensures.err
