use Rattle.f2_recover_laws.proofs.RightNodes.{right_nodes}
use Rattle.f2_recover_laws.proofs.RightNames.{right_names}
use Rattle.f2_recover_laws.proofs.sound.bases_are_right.Goals as goal

pub returns : goal.returns
returns c = λ image ckpt walk read. (right_nodes image ckpt walk read, right_names image ckpt walk read)
