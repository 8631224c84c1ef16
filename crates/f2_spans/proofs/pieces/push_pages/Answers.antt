use Rattle.std.proofs.Common.{◌+◌, ◌-◌, ◌++◌, ◌∷◌, [], ap, sym, ◌∙◌, append_assoc}
use Rattle.std.specs.List.{range_with_len}
use Rattle.f2_spans.proofs.Ranges.{range_step}
use Rattle.f2_spans.proofs.pieces.push_pages.Goals as goal

pub loop-page-preserved : goal.loop-page-preserved
loop-page-preserved c =
    let page = c.loop-page.page in
    let end = c.pages_of_piece-first.result.1 in
    let rest = range_with_len (page + 1) (end - (page + 1)) in
    ap (λ pages. pages ++ rest) c.in_ok-push.ensures.items
    ∙ append_assoc c.loop-page.pages.items (page ∷ []) rest
    ∙ sym (ap (λ pages. c.loop-page.pages.items ++ pages) (range_step page end c.loop-page-test.true))
    ∙ c.loop-page.invariant
