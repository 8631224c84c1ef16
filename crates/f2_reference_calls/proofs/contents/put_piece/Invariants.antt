use Rattle.std.proofs.Common.{◌≡◌, ◌-◌}
use Rattle.std.specs.List.{fold, range_with_len}
use Rattle.f2_model.specs.Content.{put_in_page, put_piece}
use Rattle.f2_reference_calls.proofs.contents.put_piece.Given as goal

-- the pages that are left, put from here on, come to the whole piece
abbrev pub invariant-loop-page : goal.invariant-loop-page
invariant-loop-page l = fold (put_in_page l.piece) l.pages (range_with_len l.page (l.end - l.page)) ≡ put_piece l.fn.pages l.piece
