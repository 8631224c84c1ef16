use Rattle.std.proofs.Common.{refl}
use Rattle.f2_disk.specs.Contents.{zeros}
use Rattle.f2_disk.proofs.ContentsLaws.{zeros_block}
use Rattle.f2_disk.proofs.disk.blank_block.Goals as goal

pub returns-clause-zeros : goal.returns-clause-zeros
unfolding zeros
returns-clause-zeros c = refl

pub returns-clause-block : goal.returns-clause-block
unfolding zeros
returns-clause-block c = zeros_block
