use Rattle.std.proofs.Common.{◌≡◌, ◌∙◌, length, ap, sym, subst, arith}
use Rattle.f2_image.specs.Chains.{Logged, is_marked}
use Rattle.f2_recover.proofs.Telling.{fault_holds}
use Rattle.f2_overlay.specs.Brought.{AreRightTo}
use Rattle.f2_overlay.proofs.RightMarks.{same_block, logged_at, right_none, right_passed, right_all}
use Rattle.f2_overlay.proofs.names.check_names.Goals as goal
use Rattle.f2_overlay.proofs.names.check_names.Goals.{then-is_marked+in_ok-check_mark, else-is_marked}

pub loop-logged-init : goal.loop-logged-init
loop-logged-init c image ckpt base same = subst (AreRightTo image ckpt 0) (sym c.new-brought.ensures) (right_none image ckpt)

pub loop-logged-preserved : goal.loop-logged-preserved
loop-logged-preserved c image ckpt base same =
    let block = c.deref.ensures ∙ ap (λ (l : Logged). l.block) c.logged.view_is in
    let tested = sym (ap is_marked block) ∙ sym c.is_marked.ensures in
    let before = c.loop-logged.invariant image ckpt base same in
    elim c.if-is_marked.branch [
      | then-is_marked+in_ok-check_mark w ↦ (
          let at = logged_at image ckpt c.args.log.now c.loop-logged.logged-index c.logged-item.result same c.loop-logged-test.true c.logged-item.is (tested ∙ w.if-is_marked.true) in
          rw w.brought-is (w.in_ok-check_mark.ensures.right image ckpt c.loop-logged.logged-index base at before))
      | else-is_marked w ↦ (
          let stands = same_block image ckpt c.args.log.now c.loop-logged.logged-index c.logged-item.result same c.loop-logged-test.true c.logged-item.is in
          rw w.brought-is (right_passed image ckpt c.loop-logged.logged-index c.loop-logged.brought before (sym (ap is_marked stands) ∙ tested ∙ w.if-is_marked.false)))
    ]

pub returns-in_err-check_mark-clause-fault : goal.returns-in_err-check_mark-clause-fault
returns-in_err-check_mark-clause-fault c =
    let block = c.deref.ensures ∙ ap (λ (l : Logged). l.block) c.logged.view_is in
    let tested = sym (ap is_marked block) ∙ sym c.is_marked.ensures in
    fault_holds _ _ _ c.from_residual.ensures.1 (λ image ckpt base same.
    let at = logged_at image ckpt c.args.log.now c.loop-logged.logged-index c.logged-item.result same c.loop-logged-test.true c.logged-item.is (tested ∙ c.if-is_marked.true) in
    c.in_err-check_mark.ensures.fault image ckpt c.loop-logged.logged-index base at (c.loop-logged.invariant image ckpt base same))

pub returns-clause-marks : goal.returns-clause-marks
returns-clause-marks c image ckpt base same =
    let all : c.loop-logged.logged-index ≡ length c.args.log.now = omega arith in
    right_all image ckpt c.loop-logged.brought (subst (λ n. AreRightTo image ckpt n c.loop-logged.brought) (all ∙ ap (λ l. length l) same) (c.loop-logged.invariant image ckpt base same))
