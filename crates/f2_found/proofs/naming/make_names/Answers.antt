use Rattle.std.proofs.Common.{◌≡◌, ℕ, subst, arith}
use Rattle.f2_format.specs.Geometry.{nid_limit}
use Rattle.f2_found.specs.Named.{AreAllNamedTo}
use Rattle.f2_found.proofs.NameSteps.{named_none, named_next}
use Rattle.f2_found.proofs.naming.make_names.Goals as goal

pub loop-ino-init : goal.loop-ino-init
loop-ino-init c apart = named_none c.args.rolls.now c.args.walk.now.rows c.args.walk.now.names (nid_limit c.args.g.now) c.in_ok-names.names c.in_ok-names.ensures

pub loop-ino-preserved : goal.loop-ino-preserved
loop-ino-preserved c apart =
    named_next c.args.rolls.now c.args.walk.now.rows c.args.walk.now.names (nid_limit c.args.g.now) apart c.loop-ino.ino c.loop-ino.names c.add_file.new.names (c.loop-ino.invariant apart) c.in_ok-add_file.ensures

pub returns : goal.returns
returns c apart =
    let ended : c.loop-ino.ino ≡ nid_limit c.args.g.now = omega (arith, c.loop-ino-test.false, c.loop-ino.auto.ino-end, c.nid_count-ino-end.ensures) in
    subst (λ (n : ℕ). AreAllNamedTo c.args.rolls.now c.args.walk.now.rows c.args.walk.now.names (nid_limit c.args.g.now) n c.loop-ino.names) ended (c.loop-ino.invariant apart)
