use Rattle.std.proofs.Common.{◌≡◌, ◌-◌}
use Rattle.std.specs.List.{fold, range_with_len}
use Rattle.f2_model.specs.Content.{put_in_page, put_piece}
use Rattle.f2_pieces.specs.Held.{HasPagesOf}
use Rattle.f2_pieces.proofs.fills.fill_piece.Given as goal

-- the pages that are left, filled from here on, come to the whole piece; and all its pages are there
abbrev pub invariant-loop-page : goal.invariant-loop-page
invariant-loop-page l =
    (fold (put_in_page l.piece) l.pages (range_with_len l.page (l.end - l.page)) ≡ put_piece l.fn.pages l.piece)
    × HasPagesOf l.pages (put_piece l.fn.pages l.piece)
