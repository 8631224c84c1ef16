use Rattle.f2_image.specs.Chains.{chain, marked_places, IsMark}
use Rattle.f2_overlay_laws.proofs.LastMarks.{same_length}
use Rattle.f2_overlay_laws.proofs.rolled.marks_are_marked_places.Goals as goal

pub returns : goal.returns
returns c = λ image ckpt base marks are. same_length (IsMark image ckpt base (chain image ckpt)) (marked_places (chain image ckpt)) marks are
