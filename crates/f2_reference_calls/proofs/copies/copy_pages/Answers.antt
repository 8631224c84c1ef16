use Rattle.std.proofs.Common.{◌≡◌, ◌+◌, drop, get_or, sym, ap, ◌∙◌}
use Rattle.std.proofs.lemmas.List.{at_drop_all}
use Rattle.std.specs.FinMap as map
use Rattle.f2_reference_calls.proofs.Copied.{with_found, with_keys, with_all_keys, next_key}
use Rattle.f2_reference_calls.proofs.copies.copy_pages.Goals as goal
use Rattle.f2_reference_calls.proofs.copies.copy_pages.Goals.{in-Some+in_ok-put, in_default}

pub loop-number-init : goal.loop-number-init
loop-number-init c =
    ap (λ m. with_keys c.args.pages.now m c.as_slice-number-items.result.now) c.new-copy.ensures
    ∙ ap (with_keys c.args.pages.now map.empty) (c.as_slice-number-items.ensures ∙ c.in_ok-numbers.ensures)
    ∙ with_all_keys c.args.pages.now

pub loop-number-preserved : goal.loop-number-preserved
loop-number-preserved c =
    let pages = c.args.pages.now in
    let numbers = c.as_slice-number-items.result.now in
    let i = c.loop-number.number-index in
    let key = get_or numbers i 0 in
    let put : c.match-get.copy ≡ with_found c.loop-number.copy key (map.get pages key) =
    elim c.match-get.branch [
      | in-Some+in_ok-put w ↦ w.copy-is ∙ w.in_ok-put.ensures.ok ∙ ap (with_found c.loop-number.copy key) w.in-Some.ensures
      | in_default w ↦ w.copy-is ∙ ap (with_found c.loop-number.copy key) w.in_default.ensures
    ] in
    ap (λ m. with_keys pages m (drop (i + 1) numbers)) put ∙ sym (next_key pages c.loop-number.copy numbers i c.loop-number-test.true) ∙ c.loop-number.invariant

pub returns : goal.returns
returns c = sym (at_drop_all (with_keys c.args.pages.now c.loop-number.copy) c.as_slice-number-items.result.now c.loop-number.number-index c.loop-number-test.false) ∙ c.loop-number.invariant
