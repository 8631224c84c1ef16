use Rattle.std.proofs.Common.{sym, subst}
use Rattle.f2_model.specs.declared.events.Event.TheVariants.{Crash}
use Rattle.f2_model.specs.declared.events.Answer.TheVariants.{Began, Crashed, Stepped, Ticked}
use Rattle.f2_reference.specs.Choosing.{ComesTo}
use Rattle.f2_reference.proofs.RunPlain.{stays_plain, comes_crashed, crashed_plain}
use Rattle.f2_reference.proofs.machine.Machine.step.Goals as goal

pub invariant_of-self : goal.invariant_of-self
invariant_of-self c =
    stays_plain c.begin.result Began c.args.choices c.self.inside.plain c.begin.new.plain _ c.self.invariant c.begin.ensures.ok c.begin.ensures.err c.begin.ensures.sound

pub invariant_of-self-in-Go : goal.invariant_of-self-in-Go
invariant_of-self-in-Go c =
    stays_plain c.go.result Stepped c.args.choices c.self.inside.plain c.go.new.plain _ c.self.invariant c.go.ensures.ok c.go.ensures.err c.go.ensures.sound

pub invariant_of-self-in-Tick : goal.invariant_of-self-in-Tick
invariant_of-self-in-Tick c =
    stays_plain c.tick.result Ticked c.args.choices c.self.inside.plain c.tick.new.plain _ c.self.invariant c.tick.ensures.ok c.tick.ensures.err c.tick.ensures.sound

pub invariant_of-self-in-Mount : goal.invariant_of-self-in-Mount
invariant_of-self-in-Mount c =
    stays_plain c.mount.result (λ answer. answer) c.args.choices c.self.inside.plain c.mount.new.plain _ c.self.invariant c.mount.ensures.ok c.mount.ensures.err c.mount.ensures.sound

pub invariant_of-self-in-Unmount : goal.invariant_of-self-in-Unmount
invariant_of-self-in-Unmount c =
    stays_plain c.unmount.result Began c.args.choices c.self.inside.plain c.unmount.new.plain _ c.self.invariant c.unmount.ensures.ok c.unmount.ensures.err c.unmount.ensures.sound

pub invariant_of-self-in-Upgrade : goal.invariant_of-self-in-Upgrade
invariant_of-self-in-Upgrade c =
    stays_plain c.upgrade.result Began c.args.choices c.self.inside.plain c.upgrade.new.plain _ c.self.invariant c.upgrade.ensures.ok c.upgrade.ensures.err c.upgrade.ensures.sound

pub invariant_of-self-in-Crash : goal.invariant_of-self-in-Crash
invariant_of-self-in-Crash c =
    crashed_plain c.crashes.result c.args.choices c.self.inside.plain c.crashes.new.self c.self.invariant c.crashes.ensures.ok c.crashes.ensures.err

pub returns-in_ok-crashes-in-Crash-clause-ok : goal.returns-in_ok-crashes-in-Crash-clause-ok
returns-in_ok-crashes-in-Crash-clause-ok c =
    let came = comes_crashed c.args.choices c.self.inside.plain c.crashes.new.self c.in_ok-crashes-in-Crash.ensures.ok in
    let from = subst (λ old. ComesTo c.args.choices old c.crashes.new.self Crash Crashed) c.self.view_is came in
    subst (λ event. ComesTo c.args.choices c.args.self.now c.crashes.new.self event Crashed) (sym c.in-Crash.is) from
