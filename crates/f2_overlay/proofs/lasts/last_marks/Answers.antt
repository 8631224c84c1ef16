use Rattle.std.proofs.Common.{◌≡◌, ◌+◌, ◌<◌, ℕ, suc, false, BTreeMap, length, ap, ◌∙◌, arith, refl}
use Rattle.std.specs.FinMap as map
use Rattle.std.specs.Ordering.{nat_cmp}
use Rattle.f2_model.proofs.MapViews.{seen-insert}
use Rattle.f2_footer.specs.declared.Footer.{Footer}
use Rattle.f2_image.specs.Chains.{Logged, block_in, is_marked}
use Rattle.f2_overlay.specs.Lasts.{last_mark_before}
use Rattle.f2_overlay.proofs.LastPlaces.{footer_read, mark_read, below_inode, no_mark_read, one_marked, none_marked}
use Rattle.f2_overlay.proofs.lasts.last_marks.Goals as goal
use Rattle.f2_overlay.proofs.lasts.last_marks.Goals.{then-footer-eq0+then-footer+in_ok-insert, else-footer-eq0, else-footer-eq0-via-then-footer-eq0+else-footer, else-footer-eq0-via-else-footer-eq0}

pub loop-place-init : goal.loop-place-init
loop-place-init c = λ ino. ap (λ es. map.get (map.from_entries {R = nat_cmp} es) ino) c.new-places.ensures.empty ∙ map.get-empty nat_cmp ino

pub loop-place-preserved : goal.loop-place-preserved
loop-place-preserved c =
    let log = c.args.log.now in
    let place = c.loop-place.place in
    let before = map.from_entries {R = nat_cmp} c.loop-place.places.entries in
    let within : c.loop-place.place < length log = omega arith in
    let next : suc c.loop-place.place ≡ c.loop-place.place + 1 = omega arith in
    let own = c.deref.ensures ∙ ap (λ (l : Logged). l.block) c.logged.view_is in
    let logged = c.index-log-place.result in
    let block = c.deref.result.now in
    let footer = c.read-footer.result in
    elim c.if-footer-eq0.branch [
      | then-footer-eq0+then-footer+in_ok-insert w ↦
          let is = footer_read log place logged block footer within c.index-log-place.is own c.read-footer.ensures in
          let mark = mark_read log place logged block footer within c.index-log-place.is own c.read-footer.ensures w.if-footer-eq0.true w.if-footer.true in
          λ ino. ap (λ (m : BTreeMap ℕ ℕ). map.get (map.from_entries {R = nat_cmp} m.entries) ino) w.places-is
          ∙ ap (λ m. map.get m ino) (seen-insert c.loop-place.places.entries before refl _ footer.ino place w.in_ok-insert.ensures.updates.0)
          ∙ ap (λ (f : Footer). map.get (map.insert before f.ino place) ino) is
          ∙ one_marked log place before c.loop-place.invariant mark ino
          ∙ ap (λ n. last_mark_before log n ino) next
      | else-footer-eq0 w ↦
          let unmarked : is_marked (block_in log place) ≡ false = elim w.else-footer-eq0.branch [
            | else-footer-eq0-via-then-footer-eq0+else-footer v ↦ no_mark_read log place logged block footer within c.index-log-place.is own c.read-footer.ensures v.if-footer.false
            | else-footer-eq0-via-else-footer-eq0 v ↦ below_inode log place logged block footer within c.index-log-place.is own c.read-footer.ensures v.if-footer-eq0.false
          ] in
          λ ino. ap (λ (m : BTreeMap ℕ ℕ). map.get (map.from_entries {R = nat_cmp} m.entries) ino) w.places-is
          ∙ none_marked log place before c.loop-place.invariant unmarked ino
          ∙ ap (λ n. last_mark_before log n ino) next
    ]

pub returns : goal.returns
returns c = λ ino. c.loop-place.invariant ino ∙ ap (λ n. last_mark_before c.args.log.now n ino) (let same : c.loop-place.place ≡ length c.args.log.now = omega arith in same)
