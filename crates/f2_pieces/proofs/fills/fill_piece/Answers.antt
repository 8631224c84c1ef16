use Rattle.std.proofs.Common.{◌+◌, ◌-◌, ap, sym, subst, ◌∙◌}
use Rattle.std.specs.List.{fold, range_with_len}
use Rattle.f2_model.specs.Content.{put_in_page, put_piece}
use Rattle.f2_spans.proofs.Ranges.{range_step}
use Rattle.f2_pieces.specs.Held.{HasPagesOf}
use Rattle.f2_pieces.proofs.Stays.{page_stays, next_page_there}
use Rattle.f2_pieces.proofs.fills.fill_piece.Goals as goal

pub fill_page-requires-clause-there : goal.fill_page-requires-clause-there
fill_page-requires-clause-there c =
    let piece = c.args.piece.now in
    let pages = c.loop-page.pages in
    let page = c.loop-page.page in
    let end = c.pages_of_piece-first.result.1 in
    next_page_there piece pages (put_piece c.args.pages.now piece) page (range_with_len (page + 1) (end - (page + 1)))
    (sym (ap (fold (put_in_page piece) pages) (range_step page end c.loop-page-test.true)) ∙ c.loop-page.invariant.0) c.loop-page.invariant.1

pub loop-page-preserved : goal.loop-page-preserved
loop-page-preserved c =
    let piece = c.args.piece.now in
    let pages = c.loop-page.pages in
    let page = c.loop-page.page in
    let end = c.pages_of_piece-first.result.1 in (
      ap (λ m. fold (put_in_page piece) m (range_with_len (page + 1) (end - (page + 1)))) c.fill_page.ensures
          ∙ sym (ap (fold (put_in_page piece) pages) (range_step page end c.loop-page-test.true))
          ∙ c.loop-page.invariant.0,
      subst (λ m. HasPagesOf m (put_piece c.args.pages.now piece)) (sym c.fill_page.ensures)
          (λ other there. page_stays piece pages page other (c.loop-page.invariant.1 other there)),
    )
