use Rattle.std.proofs.Common.{arith}
use Rattle.f2_recover.proofs.Telling.{fault_holds}
use Rattle.f2_overlay.proofs.OwnersMore.{more_same, more_then, more_one, here_one, right_one, listed_more}
use Rattle.f2_overlay.proofs.owners.Owners.claim_all.Goals as goal

pub loop-listed-init : goal.loop-listed-init
loop-listed-init c = record { more = more_same c.args.self.now; listed = λ k small. absurd (omega (arith, small)); right = λ image ckpt sizes listed right. right }

pub loop-listed-preserved : goal.loop-listed-preserved
loop-listed-preserved c =
    let before = c.loop-listed.invariant in
    let one = c.in_ok-claim.ensures in
    let more = more_one _ _ _ _ one.alone one.put in
    record {
      more = more_then _ _ _ before.more more;
      listed = listed_more c.args.ino c.args.list.now c.loop-listed.listed-index _ _ more before.listed (here_one _ _ _ _ one.alone one.put);
      right = λ image ckpt sizes listed right.
          right_one _ _ _ _ one.alone one.put c.args.g.now image ckpt one.inside sizes (listed c.loop-listed.listed-index c.loop-listed-test.true) (before.right image ckpt sizes listed right);
    }

pub returns-in_err-claim-clause-fault : goal.returns-in_err-claim-clause-fault
returns-in_err-claim-clause-fault c =
    fault_holds _ _ _ c.from_residual.ensures.1
    (λ image ckpt has sizes listed right.
    c.in_err-claim.ensures.fault image ckpt has sizes (c.loop-listed.invariant.right image ckpt sizes listed right) (listed c.loop-listed.listed-index c.loop-listed-test.true))
