use Rattle.std.proofs.Common.{length}
use Rattle.std.specs.List.{flat_map}
use Rattle.f2_script.specs.Words.{AreWords, shown}
use Rattle.f2_script.specs.Lines.{piece_words}
use Rattle.f2_script.proofs.Growth.{Growth}
use Rattle.f2_script.proofs.requests.pieces_of.Given as goal

abbrev pub invariant-loop-left : goal.invariant-loop-left
invariant-loop-left l = Growth (λ pieces. AreWords (flat_map piece_words pieces) (shown l.words)) (λ pieces. AreWords (flat_map piece_words pieces) (shown l.left)) l.pieces

abbrev pub decreases-loop-left : goal.decreases-loop-left
decreases-loop-left l = length l.left
