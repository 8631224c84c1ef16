use Rattle.f2_reference_calls.proofs.Results.{ok_after}
use Rattle.f2_reference.proofs.MountComes.{comes_upgrade}
use Rattle.f2_reference.proofs.mounts.upgrade.Goals as goal

pub returns-clause-ok : goal.returns-clause-ok
returns-clause-ok c =
    ok_after c.close.result (λ begun closes. comes_upgrade c.args.choices c.args.plain.now c.close.new.plain begun closes) c.close.ensures.ok
