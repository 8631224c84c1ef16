use Rattle.std.proofs.Common.{◌≡◌, [], drop}
use Rattle.f2_pieces.specs.Absent.{with_absent_of}
use Rattle.f2_pieces.proofs.absent.absent_of.Given as goal

-- the pieces that are left, added from here on, come to all of them
abbrev pub invariant-loop-piece : goal.invariant-loop-piece
invariant-loop-piece l = with_absent_of l.pages l.absent.keys (drop l.piece-index l.pieces) ≡ with_absent_of l.pages [] l.pieces
