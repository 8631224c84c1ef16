use Rattle.std.proofs.Common.{◌≡◌, length, subst, arith}
use Rattle.f2_recover.proofs.Telling.{fault_holds}
use Rattle.f2_overlay.specs.Putting.{ArePutTo}
use Rattle.f2_overlay.proofs.OwnersMore.{more_same, more_then}
use Rattle.f2_overlay.proofs.PutPages.{put_to_none, put_to_more}
use Rattle.f2_overlay.proofs.putting.put_addresses.Goals as goal

pub loop-slot-init : goal.loop-slot-init
loop-slot-init c = record { put = put_to_none c.args.first.page c.args.addresses.now c.args.pages.now; more = more_same c.args.owners.now; own = λ own. own; right = λ image ckpt sizes from right. right }

pub loop-slot-preserved : goal.loop-slot-preserved
loop-slot-preserved c =
    let before = c.loop-slot.invariant in
    let one = c.in_ok-put_page.ensures in
    record {
      put = put_to_more c.args.first.page c.args.addresses.now c.loop-slot.slot _ _ _ before.put one.put;
      more = more_then _ _ _ before.more one.more;
      own = λ own. one.own (before.own own);
      right = λ image ckpt sizes from right. one.right image ckpt sizes (from c.loop-slot.slot c.loop-slot-test.true) (before.right image ckpt sizes from right);
    }

pub returns-in_err-put_page-clause-fault : goal.returns-in_err-put_page-clause-fault
returns-in_err-put_page-clause-fault c =
    fault_holds _ _ _ c.from_residual.ensures.1
    (λ image ckpt has sizes from right.
    c.in_err-put_page.ensures.fault image ckpt has sizes (from c.loop-slot.slot c.loop-slot-test.true) (c.loop-slot.invariant.right image ckpt sizes from right))

pub returns-clause-put : goal.returns-clause-put
returns-clause-put c =
    let ended : c.loop-slot.slot ≡ length c.args.addresses.now = omega (arith, c.loop-slot-test.false, c.loop-slot.auto.slot-end) in
    subst (λ n. ArePutTo c.args.first.page c.args.addresses.now n c.args.pages.now c.loop-slot.pages) ended c.loop-slot.invariant.put
