use Rattle.std.proofs.Common.{◌≡◌, ◌-◌, ◌++◌}
use Rattle.std.specs.List.{range_with_len}
use Rattle.f2_model.specs.Content.{pages_of_piece}
use Rattle.f2_spans.proofs.pieces.push_pages.Given as goal

-- the pages that are left, behind those so far, are all of them
abbrev pub invariant-loop-page : goal.invariant-loop-page
invariant-loop-page l = l.pages.items ++ range_with_len l.page (l.end - l.page) ≡ l.fn.pages.items ++ pages_of_piece l.piece
