use Rattle.std.proofs.Common.{◌+◌, drop, get_or, ap, sym, subst, ◌∙◌}
use Rattle.f2_model.specs.Content.{put_pieces}
use Rattle.f2_pieces.specs.Held.{HasPagesOf}
use Rattle.f2_pieces.proofs.Stays.{piece_stays, next_piece_there, next_piece}
use Rattle.f2_pieces.proofs.fills.fill_pieces.Goals as goal

pub fill_piece-requires-clause-there : goal.fill_piece-requires-clause-there
fill_piece-requires-clause-there c =
    let pieces = c.args.pieces.now in
    let pages = c.loop-piece.pages in
    let i = c.loop-piece.piece-index in
    next_piece_there pages (put_pieces c.args.pages.now pieces) (get_or pieces i _) (drop (i + 1) pieces)
    (sym (next_piece pages pieces i _ c.loop-piece-test.true) ∙ c.loop-piece.invariant.0) c.loop-piece.invariant.1

pub loop-piece-preserved : goal.loop-piece-preserved
loop-piece-preserved c =
    let pieces = c.args.pieces.now in
    let pages = c.loop-piece.pages in
    let i = c.loop-piece.piece-index in (
      ap (λ m. put_pieces m (drop (i + 1) pieces)) c.fill_piece.ensures
          ∙ sym (next_piece pages pieces i _ c.loop-piece-test.true)
          ∙ c.loop-piece.invariant.0,
      subst (λ m. HasPagesOf m (put_pieces c.args.pages.now pieces)) (sym c.fill_piece.ensures)
          (λ page there. piece_stays (get_or pieces i _) pages page (c.loop-piece.invariant.1 page there)),
    )
