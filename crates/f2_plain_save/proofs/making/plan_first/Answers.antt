use Rattle.std.proofs.Common.{◌≡◌, ◌+◌, ◌≤◌, length, sym, subst}
use Rattle.f2_format.specs.Geometry.{ImageGeometry}
use Rattle.f2_model.specs.Tree.{Rows}
use Rattle.f2_laid.specs.Planned.{IsPlanOf}
use Rattle.f2_plain_plan.specs.declared.plans.Plan.{Plan}
use Rattle.std.specs.Prelude.{Result, Ok, Err, IfOk}
use Rattle.f2_plain_save.proofs.Counted.{first_few}
use Rattle.f2_laid.specs.Laid.{PlaceMap, IsKept, IsStorable, root_alone}
use Rattle.f2_plain_save.proofs.First.{none_kept}
use Rattle.f2_plain_save.proofs.Root.{root_storable}
use Rattle.f2_plain_save.proofs.making.plan_first.Goals as goal

pub plan-requires-clause-storable : goal.plan-requires-clause-storable
plan-requires-clause-storable c = subst (IsStorable c.args.geometry) (sym c.in_ok-tree.ensures) (root_storable c.args.geometry c.cn-room.ensures.sound)

pub plan-requires-clause-kept : goal.plan-requires-clause-kept
plan-requires-clause-kept c = subst (IsKept c.args.geometry) (sym c.new.ensures) (none_kept c.args.geometry)

if_ok-weaker : {T E : Type 0} (result : Result T E) (P Q : T → Type 0) → ((v : T) → P v → Q v) → IfOk result P → IfOk result Q
if_ok-weaker (Ok v) P Q weaker ok = weaker v ok
if_ok-weaker (Err e) P Q weaker ok = tt

if_ok-both : {T E : Type 0} (result : Result T E) (P Q : T → Type 0) → IfOk result P → IfOk result Q → IfOk result (λ v. P v × Q v)
if_ok-both (Ok v) P Q first second = (first, second)
if_ok-both (Err e) P Q first second = tt

pub returns-clause-most : goal.returns-clause-most
returns-clause-most c =
    if_ok-weaker c.plan-2.result
    (λ (plan : Plan). IsPlanOf c.in_ok-tree.tree c.new.result plan.stored plan.blocks.items plan.tail × (plan.stored.geometry ≡ c.args.geometry)) _
    (λ plan is. subst (λ (e : ImageGeometry). length plan.blocks.items ≤ e.nat + 3) is.1
    (first_few plan.stored plan.blocks.items plan.tail
    (subst (λ (places : PlaceMap). IsPlanOf root_alone places plan.stored plan.blocks.items plan.tail) c.new.ensures
    (subst (λ (tree : Rows). IsPlanOf tree c.new.result plan.stored plan.blocks.items plan.tail) c.in_ok-tree.ensures is.0))))
    (if_ok-both c.plan-2.result _ _ c.plan-2.ensures.plan c.plan-2.ensures.geometry)
