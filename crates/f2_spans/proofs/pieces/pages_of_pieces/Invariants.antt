use Rattle.std.proofs.Common.{◌≡◌, ◌++◌, drop}
use Rattle.std.specs.List.{flat_map}
use Rattle.f2_model.specs.Content.{pages_of_piece}
use Rattle.f2_spans.proofs.pieces.pages_of_pieces.Given as goal

-- the pages of the pieces that are left, behind those so far, are all of them
abbrev pub invariant-loop-piece : goal.invariant-loop-piece
invariant-loop-piece l = l.pages.items ++ flat_map pages_of_piece (drop l.piece-index l.pieces) ≡ flat_map pages_of_piece l.pieces
