use Rattle.std.proofs.Common.{refl, sym}
use Rattle.f2_dentry_block.specs.Dents.{dentry_of}
use Rattle.f2_image.specs.Faults as faults
use Rattle.f2_recover.proofs.dentries.check_dent.Goals as goal

pub returns-then-dent-lt-LEAST_INO-clause-fault : goal.returns-then-dent-lt-LEAST_INO-clause-fault
returns-then-dent-lt-LEAST_INO-clause-fault c image ckpt directory has reached names =
    (has, faults.too_low directory (dentry_of c.args.dent.now) reached names refl c.if-dent-lt-LEAST_INO.true)

pub returns-then-not-is_good-clause-fault : goal.returns-then-not-is_good-clause-fault
returns-then-not-is_good-clause-fault c image ckpt directory has reached names =
    (has, faults.bad_name directory (dentry_of c.args.dent.now) reached names (sym c.if-not-is_good.ensures) refl)
