use Rattle.std.proofs.Common.{◌≡◌, ◌≢◌, ◌∙◌, ℕ, List, sym, ap, subst, refl, arith}
use Rattle.std.specs.Prelude.{slice_index}
use Rattle.f2_format.specs.Geometry.{ImageGeometry, is_in_data}
use Rattle.f2_image.specs.Faults as faults
use Rattle.f2_overlay.proofs.Maps.{not_none}
use Rattle.f2_overlay.proofs.MarkEnds.{ends_well, page_of_mark, past_size}
use Rattle.f2_overlay.proofs.ends.check_end.Goals as goal

pub returns-in_default-clause-right : goal.returns-in_default-clause-right
returns-in_default-clause-right g c image tells page at there past = not_none at (sym (c.in_default.ensures.none page) ∙ there)

pub returns-then-size-start-clause-fault : goal.returns-then-size-start-clause-fault
returns-then-size-start-clause-fault g c image ckpt place block tells has sizes is own same are =
    past_size image ckpt place c.args.ino block c.args.pages.now is own are c.in-Some.page c.in-Some.at c.in-Some.ensures.there c.args.size has same (faults.whole (omega (arith, c.if-size-start.true, c.from-start.ensures)))

pub returns-then-rest-ge-BLOCK_BYTES-clause-right : goal.returns-then-rest-ge-BLOCK_BYTES-clause-right
returns-then-rest-ge-BLOCK_BYTES-clause-right g c image tells page at there past =
    ends_well image c.args.size c.in-Some.page c.in-Some.at c.args.pages.now c.in-Some.ensures.there c.in-Some.ensures.last (omega (arith, c.if-size-start.false, c.from-start.ensures))
    (λ place small over. absurd (omega (arith, small, over, c.if-rest-ge-BLOCK_BYTES.true, c.from-start.ensures))) page at there past

pub returns-then-not-in_data-clause-fault : goal.returns-then-not-in_data-clause-fault
returns-then-not-in_data-clause-fault g c image ckpt place block tells has sizes is own same are =
    faults.page has c.args.ino c.in-Some.page (page_of_mark image ckpt place c.args.ino block c.args.pages.now is own are c.in-Some.page c.in-Some.at c.in-Some.ensures.there)
    (ap (λ (e : ImageGeometry). is_in_data e c.in-Some.at) sizes ∙ sym c.if-not-in_data.ensures)

pub returns-then-not-is_zero_from-clause-fault : goal.returns-then-not-is_zero_from-clause-fault
returns-then-not-is_zero_from-clause-fault g c image ckpt place block tells has sizes is own same are =
    let content = c.in_ok-read_block.ensures.content image tells in
    let wrong = c.if-not-is_zero_from.ensures.other refl in
    let low = wrong.1.0 in
    past_size image ckpt place c.args.ino block c.args.pages.now is own are c.in-Some.page c.in-Some.at c.in-Some.ensures.there c.args.size has same
    (faults.partly wrong.0 wrong.1.1 (omega (arith, low, c.if-size-start.false, c.from-start.ensures)) (subst (λ (b : List ℕ). slice_index b wrong.0 ≢ 0) content wrong.1.2))

pub returns-clause-right : goal.returns-clause-right
returns-clause-right g c image tells page at there past =
    let content = c.in_ok-read_block.ensures.content image tells in
    ends_well image c.args.size c.in-Some.page c.in-Some.at c.args.pages.now c.in-Some.ensures.there c.in-Some.ensures.last (omega (arith, c.if-size-start.false, c.from-start.ensures))
    (λ place small over.
    subst (λ (b : List ℕ). slice_index b place ≡ 0) content (c.if-not-is_zero_from.ensures.zeros refl place (omega (arith, small, over, c.if-size-start.false, c.from-start.ensures)) small)) page at there past
