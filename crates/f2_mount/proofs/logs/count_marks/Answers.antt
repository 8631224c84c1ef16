use Rattle.std.proofs.Common.{◌≡◌, ◌+◌, ◌<◌, ◌≤◌, false, length, sym, ap, ◌∙◌, arith}
use Rattle.f2_image.specs.Chains.{Logged, block_in, is_marked}
use Rattle.f2_overlay.proofs.LastPlaces.{mark_read, no_mark_read, below_inode}
use Rattle.f2_mount.proofs.Counts.{one_more, no_more, all}
use Rattle.f2_mount.proofs.logs.count_marks.Goals as goal
use Rattle.f2_mount.proofs.logs.count_marks.Goals.{then-footer-eq0+then-footer, else-footer-eq0, else-footer-eq0-via-then-footer-eq0+else-footer, else-footer-eq0-via-else-footer-eq0}

pub loop-logged-preserved : goal.loop-logged-preserved
loop-logged-preserved c =
    let log = c.args.log.now in
    let place = c.loop-logged.logged-index in
    let within : c.loop-logged.logged-index < length c.args.log.now = omega arith in
    let own = c.deref.ensures ∙ ap (λ (l : Logged). l.block) c.logged.view_is in
    let logged = c.logged-item.result in
    let block = c.deref.result.now in
    let footer = c.read-footer.result in
    elim c.if-footer-eq0.branch [
      | then-footer-eq0+then-footer w ↦ (
          let mark = mark_read log place logged block footer within c.logged-item.is own c.read-footer.ensures w.if-footer-eq0.true w.if-footer.true in
          w.count-is ∙ ap (λ n. n + 1) c.loop-logged.invariant ∙ sym (one_more log place within mark))
      | else-footer-eq0 w ↦ (
          let unmarked : is_marked (block_in log place) ≡ false = elim w.else-footer-eq0.branch [
            | else-footer-eq0-via-then-footer-eq0+else-footer v ↦ no_mark_read log place logged block footer within c.logged-item.is own c.read-footer.ensures v.if-footer.false
            | else-footer-eq0-via-else-footer-eq0 v ↦ below_inode log place logged block footer within c.logged-item.is own c.read-footer.ensures v.if-footer-eq0.false
          ] in
          w.count-is ∙ c.loop-logged.invariant ∙ sym (no_more log place within unmarked))
    ]

pub returns : goal.returns
returns c =
    let whole : length c.args.log.now ≤ c.loop-logged.logged-index = omega arith in
    c.loop-logged.invariant ∙ all c.args.log.now c.loop-logged.logged-index whole
