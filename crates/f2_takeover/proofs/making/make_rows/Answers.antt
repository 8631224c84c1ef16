use Rattle.std.proofs.Common.{subst, ◌∙◌}
use Rattle.std.specs.FinMap as map
use Rattle.std.specs.FinSet as set
use Rattle.f2_takeover.specs.Rows.{IsMade}
use Rattle.f2_takeover.proofs.RowSteps.{made_none, made_with, made_without}
use Rattle.f2_takeover.proofs.making.make_rows.Goals as goal
use Rattle.f2_takeover.proofs.making.make_rows.Goals.{in-Some+in_ok-put, in_default}

pub loop-ino-init : goal.loop-ino-init
loop-ino-init c = made_none c.args.rolls.now c.args.walk.now.rows c.args.changed.now.members _ c.new-rows.ensures

pub loop-ino-preserved : goal.loop-ino-preserved
loop-ino-preserved c =
    let changed = c.args.changed.now.members in
    let rolls = c.args.rolls.now in
    let base = c.args.walk.now.rows in
    let ino = c.loop-ino.ino in
    elim c.match-branch-2.branch [
      | in-Some+in_ok-put w ↦
          made_with rolls base changed ino c.loop-ino.rows _ c.loop-ino.invariant w.in-Some.row (subst (IsMade base (map.get rolls ino) (map.get base ino) (set.contains changed ino)) w.in-Some.is c.in_ok-row.ensures) (w.rows-is ∙ w.in_ok-put.ensures)
      | in_default w ↦ made_without rolls base changed ino c.loop-ino.rows _ c.loop-ino.invariant (subst (IsMade base (map.get rolls ino) (map.get base ino) (set.contains changed ino)) w.in_default.is c.in_ok-row.ensures) w.rows-is
    ]
