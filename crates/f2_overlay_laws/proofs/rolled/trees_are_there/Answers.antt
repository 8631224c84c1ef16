use Rattle.f2_overlay_laws.proofs.ReadTree.{read_tree}
use Rattle.f2_overlay_laws.proofs.rolled.trees_are_there.Goals as goal

pub returns : goal.returns
returns c = λ image ckpt walk read right. read_tree image ckpt walk read right
