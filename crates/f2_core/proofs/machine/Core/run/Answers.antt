use Rattle.std.proofs.Common.{◌≡◌, [], ◌∷◌, ◌++◌, Result, Ok, Err, OnErr, arith, refl, ap, sym, ◌∙◌, subst, append_assoc}
use Rattle.std.specs.List.{AllByRecursion}
use Rattle.std.specs.Vec.Iter.{into_iter_items}
use Rattle.f2_core.specs.Events.{IsServed, ComeTo}
use Rattle.f2_core.proofs.ComeTo.{come-none, come-on}
use Rattle.f2_core.proofs.machine.Core.run.Goals as goal

-- a fact stands also under an `Err`
on_any : {A E : Type 0} {P : Type 0} (result : Result A E) → P → OnErr result P
on_any (Ok x) p = tt
on_any (Err e) p = p

pub returns-in_err-answers-clause-err : goal.returns-in_err-answers-clause-err
returns-in_err-answers-clause-err g c = on_any c.from_residual.result (λ from tells is calm. record {
  first = [];
  rest = c.args.events.items;
  whole = refl;
  answers = [];
  come = come-none c.args.self.now (g.D.Disk.contents c.args.self.now.disk) from is;
})

pub loop-event-init : goal.loop-event-init
loop-event-init g c =
    let was = c.args.self.now in
    let given : into_iter_items c.into_iter-event-iterator.result ≡ c.args.events.items = c.into_iter-event-iterator.ensures.into_iter_gives.0 in
    record {
      whole = sym given;
      served = subst (AllByRecursion IsServed) (sym given) c.requires;
      geometry = refl;
      told = λ tells. tells;
      later = omega arith;
      come = λ from tells is calm. subst (ComeTo was was (g.D.Disk.contents was.disk) from []) (sym c.in_ok-answers.ensures.items) (come-none was (g.D.Disk.contents was.disk) from is);
    }

pub loop-event-preserved : goal.loop-event-preserved
loop-event-preserved g c =
    let was = c.args.self.now in
    let mid = c.loop-event.self in
    let inv = c.loop-event.invariant in
    let meter = g.D.Disk.meter in
    let went : into_iter_items c.loop-event.event-iterator ≡ c.in-Some.event ∷ into_iter_items c.next.new.self = c.in-Some.ensures.steps.0 in
    record {
      whole = inv.whole ∙ ap (λ rest. c.loop-event.yielded ++ rest) went ∙ sym (append_assoc c.loop-event.yielded (c.in-Some.event ∷ []) (into_iter_items c.next.new.self));
      served = (subst (AllByRecursion IsServed) went inv.served).1;
      geometry = c.step.ensures.geometry ∙ inv.geometry;
      told = λ tells. c.step.ensures.told (inv.told tells);
      later = (let first = inv.later in let then = c.step.ensures.within.later in omega (arith, first, then));
      come = λ from tells is calm. subst (ComeTo c.args.self.now c.step.new.self (g.D.Disk.contents c.step.new.self.disk) from (c.loop-event.yielded ++ c.in-Some.event ∷ [])) (sym c.in_ok-push.ensures.items) (come-on was mid c.step.new.self (g.D.Disk.contents was.disk) (g.D.Disk.contents mid.disk) (g.D.Disk.contents c.step.new.self.disk) (meter was.disk) (meter mid.disk) (meter c.step.new.self.disk) c.loop-event.yielded c.loop-event.answers.items
          c.in-Some.event c.step.result inv.geometry inv.told inv.later c.step.ensures.within.later inv.come c.step.ensures.comes from tells is calm);
    }

pub returns-in_err-push-clause-err : goal.returns-in_err-push-clause-err
returns-in_err-push-clause-err g c =
    let was = c.args.self.now in
    let mid = c.loop-event.self in
    let inv = c.loop-event.invariant in
    let meter = g.D.Disk.meter in
    let went : into_iter_items c.loop-event.event-iterator ≡ c.in-Some.event ∷ into_iter_items c.next.new.self = c.in-Some.ensures.steps.0 in
    on_any c.from_residual-in_err-push.result (λ from tells is calm. record {
      first = c.loop-event.yielded ++ c.in-Some.event ∷ [];
      rest = into_iter_items c.next.new.self;
      whole = inv.whole ∙ ap (λ rest. c.loop-event.yielded ++ rest) went ∙ sym (append_assoc c.loop-event.yielded (c.in-Some.event ∷ []) (into_iter_items c.next.new.self));
      answers = c.loop-event.answers.items ++ c.step.result ∷ [];
      come = come-on was mid c.step.new.self (g.D.Disk.contents was.disk) (g.D.Disk.contents mid.disk) (g.D.Disk.contents c.step.new.self.disk) (meter was.disk) (meter mid.disk) (meter c.step.new.self.disk) c.loop-event.yielded c.loop-event.answers.items
          c.in-Some.event c.step.result inv.geometry inv.told inv.later c.step.ensures.within.later inv.come c.step.ensures.comes from tells is calm;
    })
