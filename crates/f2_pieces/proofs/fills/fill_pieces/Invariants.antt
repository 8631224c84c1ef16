use Rattle.std.proofs.Common.{◌≡◌, drop}
use Rattle.f2_model.specs.Content.{put_pieces}
use Rattle.f2_pieces.specs.Held.{HasPagesOf}
use Rattle.f2_pieces.proofs.fills.fill_pieces.Given as goal

-- the pieces that are left, filled from here on, come to all of them; and all their pages are there
abbrev pub invariant-loop-piece : goal.invariant-loop-piece
invariant-loop-piece l =
    (put_pieces l.pages (drop l.piece-index l.pieces) ≡ put_pieces l.fn.pages l.pieces)
    × HasPagesOf l.pages (put_pieces l.fn.pages l.pieces)
