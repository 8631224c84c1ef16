use Rattle.std.proofs.Common.{◌+◌, ◌-◌, ap, sym, ◌∙◌}
use Rattle.std.specs.List.{fold, range_with_len}
use Rattle.f2_model.specs.Content.{put_in_page}
use Rattle.f2_spans.proofs.Ranges.{range_step}
use Rattle.f2_reference_calls.proofs.contents.put_piece.Goals as goal

pub loop-page-preserved : goal.loop-page-preserved
loop-page-preserved c =
    let put = put_in_page c.args.piece.now in
    let page = c.loop-page.page in
    let end = c.pages_of_piece-first.result.1 in
    ap (λ pages. fold put pages (range_with_len (page + 1) (end - (page + 1)))) c.in_ok-put_in_page.ensures.ok
    ∙ sym (ap (fold put c.loop-page.pages) (range_step page end c.loop-page-test.true))
    ∙ c.loop-page.invariant
