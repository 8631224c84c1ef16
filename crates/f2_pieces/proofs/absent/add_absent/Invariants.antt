use Rattle.std.proofs.Common.{◌≡◌, ◌-◌}
use Rattle.std.specs.List.{range_with_len}
use Rattle.f2_model.specs.Content.{pages_of_piece}
use Rattle.f2_pieces.specs.Absent.{with_absent}
use Rattle.f2_pieces.proofs.absent.add_absent.Given as goal

-- the pages that are left, added from here on, come to those of the whole piece
abbrev pub invariant-loop-page : goal.invariant-loop-page
invariant-loop-page l = with_absent l.pages l.absent.keys (range_with_len l.page (l.end - l.page)) ≡ with_absent l.pages l.fn.absent.keys (pages_of_piece l.piece)
