use Rattle.std.specs.Prelude.{true, false}
use Rattle.f2_reference.proofs.MountModes.{not_up}
use Rattle.f2_reference.proofs.MountComes.{closes_closed, closes_busy, closes_begun}
use Rattle.f2_reference.proofs.mounts.close.Goals as goal

pub returns-then-ne-clause-ok : goal.returns-then-ne-clause-ok
returns-then-ne-clause-ok c =
    closes_closed c.args.choices c.args.plain.now c.args.format (not_up c.mode.result _ c.ne.result true c.mode.ensures c.ne.ensures c.if-ne.true)

pub returns-in-Some-clause-ok : goal.returns-in-Some-clause-ok
returns-in-Some-clause-ok c =
    closes_busy c.args.choices c.args.plain.now c.args.format c.in-Some.by (not_up c.mode.result _ c.ne.result false c.mode.ensures c.ne.ensures c.if-ne.false) (cc)

pub returns-clause-ok : goal.returns-clause-ok
returns-clause-ok c =
    closes_begun c.args.choices c.args.plain.now c.begins_close.new.self c.args.format (not_up c.mode.result _ c.ne.result false c.mode.ensures c.ne.ensures c.if-ne.false) (cc) c.in_ok-begins_close.ensures.ok
