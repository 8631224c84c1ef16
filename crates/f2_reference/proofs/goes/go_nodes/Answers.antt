use Rattle.std.proofs.Common.{◌≡◌, Option, Some, option_copied, sym, ap, ◌∙◌}
use Rattle.std.specs.FinMap as map
use Rattle.f2_model.specs.Step as machine
use Rattle.f2_model.specs.Tree.{Rows}
use Rattle.f2_model.specs.declared.rows.Row.{Row}
use Rattle.f2_reference.proofs.GoSteps.{node-GoesTo, mark-GoesTo, marked-IsSound}
use Rattle.f2_reference.proofs.goes.go_nodes.Goals as goal

pub returns-in_ok-position-in-Some-clause-ok : goal.returns-in_ok-position-in-Some-clause-ok
returns-in_ok-position-in-Some-clause-ok c =
    node-GoesTo c.args.plain.now c.node_drawn.new.self c.args.seat c.args.ino c.in-Some.offset c.in_ok-position-in-Some.position c.requires.at
    (sym (c.in-Some.ensures ∙ ap (λ d. machine.least_of d c.args.ino) c.dirty_nodes.ensures)) c.in_ok-position-in-Some.ensures.position c.in_ok-position-in-Some.ensures.ok

-- the row that is marked is the file's
there : (c : goal.In_ok-position-in-None) → map.get c.args.plain.now.state.live c.args.ino ≡ Some c.in_ok-row-in-None.row
there c =
    ap {A = Rows} {B = Option Row} (λ tree. map.get tree c.args.ino) (sym c.live.ensures) ∙ sym c.get.ensures
    ∙ ap option_copied c.in_ok-ok_or-in-None.ensures.ok_part ∙ ap Some (sym c.in_ok-row-in-None.ensures)

pub returns-in_ok-position-in-None-clause-ok : goal.returns-in_ok-position-in-None-clause-ok
returns-in_ok-position-in-None-clause-ok c =
    mark-GoesTo c.args.plain.now c.mark_drawn.new.self c.args.seat c.args.ino c.in_ok-row-in-None.row c.in_ok-position-in-None.position c.requires.at
    (sym (c.in-None.ensures ∙ ap (λ d. machine.least_of d c.args.ino) c.dirty_nodes.ensures)) (there c) c.in_ok-position-in-None.ensures.position c.in_ok-position-in-None.ensures.ok

pub returns-in_ok-position-in-None-clause-sound : goal.returns-in_ok-position-in-None-clause-sound
returns-in_ok-position-in-None-clause-sound c =
    marked-IsSound c.args.plain.now c.mark_drawn.new.self c.args.seat c.args.ino c.in_ok-row-in-None.row c.requires.sound (there c) c.in_ok-position-in-None.ensures.ok
