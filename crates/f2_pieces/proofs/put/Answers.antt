use Rattle.std.proofs.Common.{ap, subst, sym, ◌∙◌}
use Rattle.f2_model.specs.Content.{put_pieces}
use Rattle.f2_pieces.specs.Fresh.{fresh_pages}
use Rattle.f2_pieces.specs.Held.{HasPagesOf}
use Rattle.f2_pieces.specs.Zeros.{with_zeros, without}
use Rattle.f2_pieces.proofs.Filled.{without_fresh, zeros_have, over_zeros}
use Rattle.f2_pieces.proofs.put.Goals as goal

pub returns-in-Err-clause-err : goal.returns-in-Err-clause-err
returns-in-Err-clause-err c =
    let pages = c.args.pages.now in
    c.take_out.ensures
    ∙ c.in-Err.ensures.others
    ∙ ap (without pages) c.requires.fresh
    ∙ without_fresh pages c.args.pieces.now

pub fill_pieces-requires-clause-there : goal.fill_pieces-requires-clause-there
fill_pieces-requires-clause-there c =
    let pages = c.args.pages.now in
    let pieces = c.args.pieces.now in
    let zeros = c.in_default.ensures.ok ∙ ap (with_zeros pages) c.requires.fresh in
    let has : HasPagesOf (with_zeros pages (fresh_pages pages pieces)) (put_pieces (with_zeros pages (fresh_pages pages pieces)) pieces) =
    subst (HasPagesOf (with_zeros pages (fresh_pages pages pieces))) (sym (over_zeros pages pieces)) (zeros_have pages pieces) in
    subst (λ m. HasPagesOf m (put_pieces m pieces)) (sym zeros) has

pub returns-clause-ok : goal.returns-clause-ok
returns-clause-ok c =
    let pages = c.args.pages.now in
    let pieces = c.args.pieces.now in
    c.fill_pieces.ensures
    ∙ ap (λ m. put_pieces m pieces) (c.in_default.ensures.ok ∙ ap (with_zeros pages) c.requires.fresh)
    ∙ over_zeros pages pieces
