use Rattle.std.proofs.Common.{◌≡◌, sym, ap, subst, ◌∙◌}
use Rattle.f2_model.specs.State.{initial}
use Rattle.f2_model.specs.Step.{MOUNT_SEAT}
use Rattle.f2_model.specs.declared.events.Event.TheVariants.{Go, Mount}
use Rattle.f2_reference.specs.Choosing.{ComesTo}
use Rattle.f2_reference.specs.Sound.{IsPlain, first_meaning}
use Rattle.f2_reference.proofs.RunMade.{making, begun_by, begun_plain, mount_made, tail_made, done_made}
use Rattle.f2_reference.proofs.machine.Machine.made.Goals as goal

pub invariant_of-machine : goal.invariant_of-machine
invariant_of-machine c =
    let begun : c.initial-plain.result ≡ begun_by c.args.limits =
    c.initial-plain.ensures ∙ ap (λ tree. record (begun_by c.args.limits) { state = initial (record first_meaning { base = tree }) }) c.in_ok-base.ensures in
    subst IsPlain (sym begun) (begun_plain c.args.limits c.requires)

pub returns : goal.returns
returns c =
    let begun : c.initial-plain.result ≡ begun_by c.args.limits =
    c.initial-plain.ensures ∙ ap (λ tree. record (begun_by c.args.limits) { state = initial (record first_meaning { base = tree }) }) c.in_ok-base.ensures in
    let mounted = mount_made c.args.limits c.step.new.self _ (subst (λ old. ComesTo making old c.step.new.self Mount c.in_ok-step.field-0) begun c.in_ok-step.ensures.ok) in
    let tailed = tail_made c.args.limits c.step-2.new.self _ (subst (λ old. ComesTo making old c.step-2.new.self (Go MOUNT_SEAT) c.in_ok-step-2.field-0) mounted c.in_ok-step-2.ensures.ok) in
    done_made c.args.limits c.step-3.new.self _ (subst (λ old. ComesTo making old c.step-3.new.self (Go MOUNT_SEAT) c.in_ok-step-3.field-0) tailed c.in_ok-step-3.ensures.ok)
