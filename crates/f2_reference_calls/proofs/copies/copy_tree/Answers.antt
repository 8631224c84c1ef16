use Rattle.std.proofs.Common.{◌≡◌, ◌+◌, drop, get_or, sym, ap, ◌∙◌}
use Rattle.std.proofs.lemmas.List.{at_drop_all}
use Rattle.std.specs.FinMap as map
use Rattle.f2_model.specs.declared.rows.Row.{Row}
use Rattle.f2_reference_calls.proofs.Copied.{with_found, with_keys, with_all_keys, next_key}
use Rattle.f2_reference_calls.proofs.copies.copy_tree.Goals as goal
use Rattle.f2_reference_calls.proofs.copies.copy_tree.Goals.{in-Some+in_ok-copy_row+in_ok-put, in_default}

pub loop-ino-init : goal.loop-ino-init
loop-ino-init c =
    ap (λ m. with_keys c.args.tree.now m c.deref-ino-items.result.now) c.new-copy.ensures
    ∙ ap (with_keys c.args.tree.now map.empty) (c.deref-ino-items.ensures.value ∙ c.in_ok-inos.ensures)
    ∙ with_all_keys c.args.tree.now

pub loop-ino-preserved : goal.loop-ino-preserved
loop-ino-preserved c =
    let tree = c.args.tree.now in
    let inos = c.deref-ino-items.result.now in
    let i = c.loop-ino.ino-index in
    let ino = get_or inos i 0 in
    let copy = c.loop-ino.copy in
    let put : c.match-get.copy ≡ with_found copy ino (map.get tree ino) =
    elim c.match-get.branch [
      | in-Some+in_ok-copy_row+in_ok-put w ↦
          w.copy-is ∙ w.in_ok-put.ensures.ok ∙ ap (λ (row : Row). map.insert copy row.ino row) w.in_ok-copy_row.ensures
          ∙ ap (λ at. map.insert copy at w.in-Some.row.now) (c.requires ino w.in-Some.row.now (sym w.in-Some.ensures))
          ∙ ap (with_found copy ino) w.in-Some.ensures
      | in_default w ↦ w.copy-is ∙ ap (with_found copy ino) w.in_default.ensures
    ] in
    ap (λ m. with_keys tree m (drop (i + 1) inos)) put ∙ sym (next_key tree copy inos i c.loop-ino-test.true) ∙ c.loop-ino.invariant

pub returns : goal.returns
returns c = sym (at_drop_all (with_keys c.args.tree.now c.loop-ino.copy) c.deref-ino-items.result.now c.loop-ino.ino-index c.loop-ino-test.false) ∙ c.loop-ino.invariant
