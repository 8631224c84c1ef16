use Rattle.f2_packed_laws.proofs.May.{sound_taken_over, kept_taken_over}
use Rattle.f2_packed_laws.proofs.packed.sound_images_are_taken_over.Goals as goal

pub returns-clause-images : goal.returns-clause-images
returns-clause-images c = sound_taken_over

pub returns-clause-disks : goal.returns-clause-disks
returns-clause-disks c = kept_taken_over
