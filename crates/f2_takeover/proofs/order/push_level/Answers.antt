use Rattle.std.proofs.Common.{ℕ, Vec, Global, sym, ap, ◌∙◌}
use Rattle.std.specs.Option.{option_copied}
use Rattle.f2_overlay.proofs.Maps.{not_none, one_some}
use Rattle.f2_takeover.specs.declared.rows.TakenRow.{TakenRow}
use Rattle.f2_takeover.proofs.OrderSteps.{listed_pushed, listed_passed, level_done}
use Rattle.f2_takeover.proofs.order.push_level.Goals as goal
use Rattle.f2_takeover.proofs.order.push_level.Goals.{in-Some+then-row-depth+in_ok-push, in-Some+else-row-depth, in_default}

pub loop-ino-init : goal.loop-ino-init
loop-ino-init c are to = to

pub loop-ino-preserved : goal.loop-ino-preserved
loop-ino-preserved c are to =
    let rows = c.args.rows.now in
    let inos = c.args.inos.now in
    let depth = c.args.depth in
    let count = c.loop-ino.ino-index in
    let before = c.loop-ino.invariant are to in
    let old = c.loop-ino.order.items in
    let new = c.match-get.order.items in
    elim c.match-get.branch [
      | in-Some+then-row-depth+in_ok-push w ↦
          listed_pushed rows inos depth count old new before are.apart c.loop-ino-test.true w.in-Some.row.now (sym c.get.ensures ∙ ap option_copied w.in-Some.is) w.if-row-depth.true
          (ap (λ (o : Vec ℕ Global). o.items) w.order-is ∙ w.in_ok-push.ensures.items)
      | in-Some+else-row-depth w ↦
          listed_passed rows inos depth count old new before
          (λ row there is. w.if-row-depth.false (ap (λ (r : TakenRow). r.depth) (one_some w.in-Some.row.now row (sym (ap option_copied w.in-Some.is) ∙ c.get.ensures ∙ there)) ∙ is)) (ap (λ (o : Vec ℕ Global). o.items) w.order-is)
      | in_default w ↦
          listed_passed rows inos depth count old new before
          (λ row there is. not_none row (sym (ap option_copied w.in_default.is) ∙ c.get.ensures ∙ there)) (ap (λ (o : Vec ℕ Global). o.items) w.order-is)
    ]

pub returns : goal.returns
returns c are to = level_done c.args.rows.now c.args.inos.now c.args.depth c.loop-ino.ino-index c.loop-ino.order.items are c.loop-ino-test.false (c.loop-ino.invariant are to)
