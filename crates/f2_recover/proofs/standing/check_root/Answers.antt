use Rattle.std.proofs.Common.{refl, subst}
use Rattle.f2_image.specs.Bases.{IsInode}
use Rattle.f2_image.specs.Faults as faults
use Rattle.f2_recover.proofs.standing.check_root.Goals as goal

pub returns-in-Regular-clause-fault : goal.returns-in-Regular-clause-fault
returns-in-Regular-clause-fault c image ckpt inode has is = (has, faults.root_file inode (subst (λ k. IsInode image ckpt 3 k inode) c.in-Regular.is is) refl)
