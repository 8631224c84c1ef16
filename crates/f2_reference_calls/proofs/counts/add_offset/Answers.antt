use Rattle.std.proofs.Common.{◌≡◌, false, nat_eq, sym, ap, subst, ◌∙◌}
use Rattle.std.specs.List.{list_any}
use Rattle.std.specs.FinSet as set
use Rattle.f2_reference_calls.specs.Given.{StandOnce, set_of}
use Rattle.f2_reference_calls.proofs.Counted.{set_of-push, once-push, insert_there}
use Rattle.f2_reference_calls.proofs.counts.add_offset.Goals as goal

pub returns-in_ok-push-clause-once : goal.returns-in_ok-push-clause-once
returns-in_ok-push-clause-once c =
    let offsets = c.args.offsets.now.items in
    let none : set.contains (set_of offsets) c.args.offset ≡ false =
    set.contains-from_list_nat offsets c.args.offset ∙ ap (list_any (λ y. nat_eq y c.args.offset)) (sym c.deref.ensures.value) ∙ sym c.contains.ensures.value ∙ c.if-not-contains.true in
    subst StandOnce (sym c.in_ok-push.ensures.items) (once-push offsets c.args.offset c.requires none)

pub returns-in_ok-push-clause-added : goal.returns-in_ok-push-clause-added
returns-in_ok-push-clause-added c = ap set_of c.in_ok-push.ensures.items ∙ set_of-push c.args.offsets.now.items c.args.offset

pub returns-else-not-contains-clause-added : goal.returns-else-not-contains-clause-added
returns-else-not-contains-clause-added c =
    let offsets = c.args.offsets.now.items in
    insert_there (set_of offsets) c.args.offset (
    set.contains-from_list_nat offsets c.args.offset ∙ ap (list_any (λ y. nat_eq y c.args.offset)) (sym c.deref.ensures.value) ∙ sym c.contains.ensures.value ∙ c.if-not-contains.false)
