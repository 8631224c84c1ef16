use Rattle.std.proofs.Common.{subst}
use Rattle.f2_model.specs.declared.modes.Format.{Format}
use Rattle.f2_reference.specs.Going.{ClosesTo}
use Rattle.f2_reference_calls.proofs.Results.{ok_after}
use Rattle.f2_reference.proofs.MountComes.{comes_unmount}
use Rattle.f2_reference.proofs.mounts.unmount.Goals as goal

pub returns-clause-ok : goal.returns-clause-ok
returns-clause-ok c =
    let old = c.args.plain.now in
    ok_after c.close.result
    (λ begun closes. comes_unmount c.args.choices old c.close.new.plain begun (subst (λ (format : Format). ClosesTo c.args.choices old c.close.new.plain format begun) c.format-format.ensures closes))
    c.close.ensures.ok
