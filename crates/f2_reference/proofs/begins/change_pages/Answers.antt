use Rattle.std.proofs.Common.{◌≡◌, ◌∙◌, refl, sym, ap, [], ◌∷◌, Some}
use Rattle.f2_model.specs.State.{dirtied, touched, removed}
use Rattle.f2_model.specs.declared.histories.Entry.TheVariants as entry
use Rattle.f2_reference_calls.proofs.Results.{ok_after}
use Rattle.f2_reference_state.specs.Seen.{told}
use Rattle.f2_reference.specs.Begins.{rows_changed}
use Rattle.f2_reference.proofs.begins.change_pages.Goals as goal

pub returns-in_ok-removed-in-Some-clause-ok : goal.returns-in_ok-removed-in-Some-clause-ok
returns-in_ok-removed-in-Some-clause-ok c =
    let old = c.args.plain.now in
    let call = c.args.call in
    let before = c.in-Some.old in
    let after = c.in-Some.new in
    let reached : c.as_slice.result.now ≡ touched before call.request = c.as_slice.ensures.value ∙ c.in_ok-touched-in-Some.ensures ∙ ap (touched before) c.get.ensures in
    let gone : c.as_slice-in-Some.result.now ≡ removed before call.request = c.as_slice-in-Some.ensures.value ∙ c.in_ok-removed-in-Some.ensures ∙ ap (removed before) c.get-in-Some.ensures in
    ok_after c.called_on_pages.result
    (λ done so. so ∙ (λ i. told old (entry.Did call.seat call.request call.outcome ∷ []) [] (record (dirtied old.state before after (reached i) (gone i)) { live = c.args.after }))
    ∙ ap (λ rows. told old (entry.Did call.seat call.request call.outcome ∷ []) [] (record (rows_changed old.state call.request rows) { live = c.args.after })) (sym c.in-Some.is))
    c.called_on_pages.ensures.ok
