use Rattle.std.proofs.Common.{◌<◌, ℕ, subst}
use Rattle.f2_image.specs.Faults as faults
use Rattle.f2_recover.proofs.standing.check_depth.Goals as goal

pub returns-then-depth-most_depth-clause-fault : goal.returns-then-depth-most_depth-clause-fault
returns-then-depth-most_depth-clause-fault c image ckpt inode has is below =
    (has, faults.too_deep c.args.depth c.args.kind inode below is (subst (λ (n : ℕ). n < c.args.depth) c.most_depth.ensures c.if-depth-most_depth.true))
