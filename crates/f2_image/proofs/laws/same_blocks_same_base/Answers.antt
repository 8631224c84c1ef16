use Rattle.f2_image.proofs.SameBase.{base_too}
use Rattle.f2_image.proofs.laws.same_blocks_same_base.Goals as goal

pub returns : goal.returns
returns c = λ image other ckpt base is agree. base_too image other ckpt agree base is
