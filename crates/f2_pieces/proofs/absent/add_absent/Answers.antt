use Rattle.std.proofs.Common.{◌+◌, ◌-◌, if◌then◌else◌, ap, sym, ◌∙◌}
use Rattle.std.specs.List.{range_with_len}
use Rattle.std.specs.Ordering.{nat_cmp}
use Rattle.std.specs.BTreeSet.{insert_key}
use Rattle.f2_spans.proofs.Ranges.{range_step}
use Rattle.f2_pieces.specs.Absent.{with_absent}
use Rattle.f2_pieces.proofs.absent.add_absent.Goals as goal
use Rattle.f2_pieces.proofs.absent.add_absent.Goals.{then-not-has_page+in_ok-insert, else-not-has_page}

pub loop-page-preserved : goal.loop-page-preserved
loop-page-preserved c =
    let page = c.loop-page.page in
    let end = c.pages_of_piece-first.result.1 in
    let left = with_absent c.args.pages.now in
    let keys = c.loop-page.absent.keys in
    let rest = range_with_len (page + 1) (end - (page + 1)) in
    let next = sym (ap (left keys) (range_step page end c.loop-page-test.true)) ∙ c.loop-page.invariant in
    elim c.if-not-has_page.branch [
      | then-not-has_page+in_ok-insert w ↦
          ap (λ absent. left absent.keys rest) w.absent-is
          ∙ ap (λ absent. left absent rest) w.in_ok-insert.ensures.keys
          ∙ ap (λ has. left (if has then keys else insert_key nat_cmp keys page) rest) (sym w.if-not-has_page.true ∙ c.has_page.ensures)
          ∙ next
      | else-not-has_page w ↦
          ap (λ absent. left absent.keys rest) w.absent-is
          ∙ ap (λ has. left (if has then keys else insert_key nat_cmp keys page) rest) (sym w.if-not-has_page.false ∙ c.has_page.ensures)
          ∙ next
    ]
