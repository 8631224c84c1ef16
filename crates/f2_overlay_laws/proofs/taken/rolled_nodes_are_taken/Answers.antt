use Rattle.f2_overlay_laws.proofs.TakenRolls.{taken_nodes}
use Rattle.f2_overlay_laws.proofs.taken.rolled_nodes_are_taken.Goals as goal

pub returns : goal.returns
returns c = λ image ckpt walk rolls right are. taken_nodes image ckpt walk rolls right are
