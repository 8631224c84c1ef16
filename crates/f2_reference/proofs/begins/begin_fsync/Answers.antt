use Rattle.std.proofs.Common.{◌≡◌, ◌∙◌, refl, sym, ap, Ok, Err, Some, None}
use Rattle.f2_model.specs.Tree.{walk}
use Rattle.f2_reference.specs.Begins.{file_to_sync}
use Rattle.f2_reference_calls.proofs.Results.{ok_after}
use Rattle.f2_reference.proofs.BeginReplies.{plain_stop}
use Rattle.f2_reference.proofs.BeginTurns.{roll_begun, reason_way, stopped_way, stop_of, by_way, did_told}
use Rattle.f2_reference.proofs.begins.begin_fsync.Goals as goal

pub returns-in_ok-begins_fsync-in-None-clause-ok : goal.returns-in_ok-begins_fsync-in-None-clause-ok
returns-in_ok-begins_fsync-in-None-clause-ok c = λ path leads.
    let old = c.args.plain.now in
    let walked = walk old.state.live path in
    let file = sym (c.in-Ok.is ∙ ap (λ reason. Ok (c.in-Ok.ino, reason)) c.in-None.is) ∙ leads in
    roll_begun c.args.choices old c.begins_fsync.new.self c.args.seat c.args.request walked c.in-Ok.ino file c.in_ok-begins_fsync-in-None.ensures.ok

pub returns-in-Some-clause-ok : goal.returns-in-Some-clause-ok
returns-in-Some-clause-ok c = λ path leads.
    let old = c.args.plain.now in
    let request = c.args.request in
    let walked = walk old.state.live path in
    let file = sym (c.in-Ok.is ∙ ap (λ reason. Ok (c.in-Ok.ino, reason)) c.in-Some.is) ∙ leads in
    ok_after c.begin_check.result
    (λ begun by. by_way c.args.choices old c.begin_check.new.plain c.args.seat request begun _ _ (reason_way c.args.choices old c.begin_check.new.plain c.args.seat request walked c.in-Ok.ino c.in-Some.reason file) by)
    c.begin_check.ensures.ok

pub returns-in-Err-clause-ok : goal.returns-in-Err-clause-ok
returns-in-Err-clause-ok c = λ path leads.
    let old = c.args.plain.now in
    let new = c.answer_alone.new.plain in
    let request = c.args.request in
    let walked = walk old.state.live path in
    let b = c.in-Err.is in
    let file : Err c.in-Err.refused ≡ file_to_sync old.limits old.state walked = cc in
    did_told c.args.choices old new c.args.seat request c.answer_alone.result _ c.in-Err.refused
    (plain_stop old.state.live path c.in-Err.refused (stop_of c.args.choices old new c.args.seat request walked c.in-Err.refused file))
    (stopped_way c.args.choices old new c.args.seat request walked c.in-Err.refused file) c.answer_alone.ensures.replied c.answer_alone.ensures.ok
