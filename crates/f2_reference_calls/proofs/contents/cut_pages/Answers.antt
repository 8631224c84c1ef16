use Rattle.std.proofs.Common.{◌≡◌, ap, ◌∙◌, ◌/◌, ◌%◌}
use Rattle.std.specs.Prelude.{nat_lt}
use Rattle.std.specs.FinMap as map
use Rattle.f2_model.specs.Content.{PAGE, filled}
use Rattle.f2_reference_calls.proofs.Cuts.{pages_to, cut_inside}
use Rattle.f2_reference_calls.proofs.contents.cut_pages.Goals as goal

pub returns-in_ok-put : goal.returns-in_ok-put
returns-in_ok-put c =
    let page = c.args.size / PAGE in
    let content = c.in-Some.content.now in
    let kept : c.cut.new.self ≡ map.retain_keys c.args.pages.now (λ page. nat_lt page (pages_to c.args.size)) =
    c.cut.ensures ∙ ap (λ n. map.retain_keys c.args.pages.now (λ page. nat_lt page n)) c.div_ceil.ensures in
    c.in_ok-put.ensures.ok
    ∙ ap (λ content. map.insert c.cut.new.self page content) c.fill.ensures
    ∙ ap (λ m. map.insert m page (filled content (c.args.size % PAGE) PAGE 0)) kept
    ∙ cut_inside c.args.pages.now c.args.size content c.if-kept-gt0.true (c.in-Some.ensures ∙ ap (λ m. map.get m page) kept)
