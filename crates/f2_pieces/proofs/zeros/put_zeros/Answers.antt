use Rattle.std.proofs.Common.{◌+◌, drop, ap, sym, ◌∙◌}
use Rattle.f2_model.specs.Content.{zero_page}
use Rattle.f2_pieces.specs.Zeros.{with_zeros, without}
use Rattle.f2_pieces.proofs.Zeroed.{next_zeros, without_put}
use Rattle.f2_pieces.proofs.zeros.put_zeros.Goals as goal

pub loop-number-preserved : goal.loop-number-preserved
unfolding zero_page
loop-number-preserved c =
    let numbers = c.args.numbers.now in
    let pages = c.loop-number.pages in
    let i = c.loop-number.number-index in (
      ap (λ m. with_zeros m (drop (i + 1) numbers)) c.in_ok-put.ensures.ok
          ∙ sym (next_zeros pages numbers i c.loop-number-test.true)
          ∙ c.loop-number.invariant.0,
      ap (λ m. without m numbers) c.in_ok-put.ensures.ok
          ∙ without_put pages numbers i zero_page c.loop-number-test.true
          ∙ c.loop-number.invariant.1,
    )
