use Rattle.std.proofs.Common.{◌≡◌, ◌++◌, take}
use Rattle.std.specs.List.{flat_map}
use Rattle.f2_script.specs.Words.{spaced}
use Rattle.f2_script.specs.Lines.{piece_words}
use Rattle.f2_script.proofs.line_texts.push_pieces.Given as goal

abbrev pub invariant-loop-piece : goal.invariant-loop-piece
invariant-loop-piece l = l.text.items ≡ l.fn.text.items ++ spaced (flat_map piece_words (take l.piece-index l.pieces))
