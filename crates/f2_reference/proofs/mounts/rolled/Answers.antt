use Rattle.std.proofs.Common.{◌≡◌, ◌+◌, ◌<◌, length, drop, get_or, map as map_list, sym, ap, subst, ◌∙◌, arith}
use Rattle.std.proofs.lemmas.List.{at_drop_more, get_or-map, length-map}
use Rattle.std.specs.FinMap as map
use Rattle.f2_model.specs.State as state
use Rattle.f2_model.specs.declared.rows.Row.{Row}
use Rattle.f2_reference.specs.Sound.{IsFittingMark}
use Rattle.f2_reference_state.specs.Parts.{mark_of}
use Rattle.f2_reference.proofs.mounts.rolled.Goals as goal

pub loop-mark-preserved : goal.loop-mark-preserved
loop-mark-preserved c =
    let marks = c.args.marks.now in
    let i = c.loop-mark.mark-index in
    let mark = c.mark-item.result in
    let tree = c.loop-mark.tree in
    let inside : i < length marks = c.loop-mark-test.true in
    let fits : IsFittingMark (get_or (map_list mark_of marks) i (mark_of mark)) = c.requires.marks i (mark_of mark) (omega (arith, length-map marks mark_of)) in
    let own : mark.row.ino ≡ mark.ino = (subst IsFittingMark (get_or-map mark_of marks i mark (mark_of mark) inside ∙ ap mark_of (sym c.mark-item.is)) fits).0 in
    let row : c.in_ok-copy_row.field-0 ≡ mark.row = c.in_ok-copy_row.ensures in
    let put : c.put.new.self ≡ map.insert tree mark.ino mark.row =
    c.in_ok-put.ensures.ok ∙ ap (λ (one : Row). map.insert tree one.ino one) row ∙ ap (λ at. map.insert tree at mark.row) own in
    let left = map_list mark_of (drop (i + 1) marks) in
    ap (λ t. state.rolled t left) put
    ∙ ap (λ one. state.rolled (map.insert tree one.ino one.row) left) c.mark-item.is
    ∙ sym (at_drop_more (λ some. state.rolled tree (map_list mark_of some)) marks i mark inside)
    ∙ c.loop-mark.invariant
