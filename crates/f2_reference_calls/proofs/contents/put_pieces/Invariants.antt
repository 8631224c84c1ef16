use Rattle.std.proofs.Common.{◌≡◌, drop}
use Rattle.f2_model.specs.Content.{put_pieces}
use Rattle.f2_reference_calls.proofs.contents.put_pieces.Given as goal

-- the pieces that are left, put from here on, come to all of them
abbrev pub invariant-loop-piece : goal.invariant-loop-piece
invariant-loop-piece l = put_pieces l.pages (drop l.piece-index l.pieces) ≡ put_pieces l.fn.pages l.pieces
