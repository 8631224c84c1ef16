use Rattle.std.proofs.Common.{◌≡◌, ◌∙◌, refl, sym, ap, [], ◌∷◌, Some}
use Rattle.f2_model.specs.Call.{effect}
use Rattle.f2_model.specs.declared.histories.Entry.TheVariants as entry
use Rattle.f2_reference_calls.proofs.Results.{ok_after}
use Rattle.f2_reference_state.specs.Seen.{told}
use Rattle.f2_reference.proofs.BeginInos.{found_least}
use Rattle.f2_reference.proofs.begins.add_row.Goals as goal

pub returns-clause-ok : goal.returns-clause-ok
returns-clause-ok c =
    let old = c.args.plain.now in
    let ino = c.in-Some.ino in
    let live = c.live.ensures in
    let is = c.in_ok-after.ensures in
    let after : c.in_ok-after.after ≡ effect old.state.live c.args.call.request ino = cc in
    ok_after c.called.result
    (λ done so. (ino, found_least old.limits old.state (Some ino) c.in-Some.ensures, so ∙ ap (λ tree. told old (entry.Did c.args.call.seat c.args.call.request c.args.call.outcome ∷ []) (ino ∷ []) (record old.state { live = tree })) after))
    c.called.ensures.ok
