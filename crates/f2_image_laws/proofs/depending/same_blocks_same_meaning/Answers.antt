use Rattle.f2_image_laws.proofs.AlikeFaults.{same_meaning}
use Rattle.f2_image_laws.proofs.depending.same_blocks_same_meaning.Goals as goal

pub returns : goal.returns
returns c = same_meaning
