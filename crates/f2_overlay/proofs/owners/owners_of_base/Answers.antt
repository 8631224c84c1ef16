use Rattle.std.proofs.Common.{◌≡◌, ◌+◌, ◌*◌, sym, ap, subst, ◌∙◌, arith}
use Rattle.std.specs.Option.{option_copied}
use Rattle.f2_recover.proofs.Telling.{fault_holds}
use Rattle.f2_overlay.specs.Owning.{AreBaseTo}
use Rattle.f2_overlay.proofs.OwnersMore.{right_none}
use Rattle.f2_overlay.proofs.BaseOwners.{base_with, base_without, fault_lists}
use Rattle.f2_overlay.proofs.owners.owners_of_base.Goals as goal
use Rattle.f2_overlay.proofs.owners.owners_of_base.Goals.{in-Some+in_ok-claim_all, in_default}

pub loop-ino-init : goal.loop-ino-init
loop-ino-init c image ckpt has sizes base = record { right = right_none image ckpt _ c.new-owners.ensures; all = λ ino page at small. absurd (omega (arith, small)) }

pub loop-ino-preserved : goal.loop-ino-preserved
loop-ino-preserved c image ckpt has sizes base =
    let before = c.loop-ino.invariant image ckpt has sizes base in
    elim c.match-get.branch [
      | in-Some+in_ok-claim_all w ↦
          let ensures = w.in_ok-claim_all.ensures in
          subst (AreBaseTo image ckpt (c.loop-ino.ino + 1)) (sym w.owners-is)
          (base_with image ckpt c.args.walk.now base c.loop-ino.ino w.in-Some.row.now w.deref.result.now c.loop-ino.owners w.claim_all.new.self (sym c.get.ensures ∙ ap (λ o. option_copied o) w.in-Some.is) w.deref.ensures.value ensures.more ensures.listed
          (ensures.right image ckpt sizes) before)
      | in_default w ↦ base_without image ckpt c.args.walk.now base c.loop-ino.ino _ _ (sym c.get.ensures ∙ ap (λ o. option_copied o) w.in_default.is) w.owners-is before
    ]

pub returns-in_err-claim_all-clause-fault : goal.returns-in_err-claim_all-clause-fault
returns-in_err-claim_all-clause-fault c =
    fault_holds _ _ _ c.from_residual.ensures.1
    (λ image ckpt has sizes base.
    c.in_err-claim_all.ensures.fault image ckpt has sizes (fault_lists image ckpt c.args.walk.now base c.loop-ino.ino c.in-Some.row.now _ (sym c.get.ensures ∙ ap (λ o. option_copied o) c.in-Some.is) c.deref.ensures.value)
    (c.loop-ino.invariant image ckpt has sizes base).right)

pub returns-clause-base : goal.returns-clause-base
returns-clause-base c image ckpt has sizes base =
    let ended : c.loop-ino.ino ≡ 455 * c.args.g.now.nat = omega (arith, c.loop-ino-test.false, c.loop-ino.auto.ino-end, c.nat-ino-end.ensures.value) in
    subst (λ n. AreBaseTo image ckpt n c.loop-ino.owners) ended (c.loop-ino.invariant image ckpt has sizes base)
