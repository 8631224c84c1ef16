use Rattle.std.proofs.Common.{◌∙◌, List, All, sym, subst, ap}
use Rattle.f2_model.specs.declared.rows.Row.{Row}
use Rattle.f2_plain_plan.specs.Directories.{rows_at}
use Rattle.f2_plain_plan.specs.Inodes.{AddsInodes, HasInode}
use Rattle.f2_plain_plan.proofs.PlanEnds.{have_inodes, is_plan, most_blocks}
use Rattle.f2_plain_plan.proofs.planning.plan.Goals as goal

pub add_inodes-requires : goal.add_inodes-requires
add_inodes-requires c =
    subst (All (HasInode c.in_ok-draft.draft.places)) (sym (ap rows_at c.as_slice.ensures.value ∙ c.in_ok-rows_of.ensures))
    (have_inodes c.args.next.geometry c.args.tree.now c.requires.storable c.args.old.now c.in_ok-draft.draft.places c.in_ok-draft.draft.blocks.items c.in_ok-draft.ensures)

pub returns-clause-plan : goal.returns-clause-plan
returns-clause-plan c =
    let inodes = subst (λ (rows : List Row). AddsInodes rows c.in_ok-draft.draft.places c.in_ok-draft.draft.blocks.items c.add_inodes.new.blocks.items) (ap rows_at c.as_slice.ensures.value ∙ c.in_ok-rows_of.ensures) c.in_ok-add_inodes.ensures in
    is_plan c.args.next c.args.tree.now c.args.old.now c.in_ok-draft.draft.places c.in_ok-draft.draft.blocks.items c.add_inodes.new.blocks.items c.add_tables.new.blocks.items c.add_pack.new.blocks.items c.head-tail.result
    c.requires.storable c.in_ok-draft.ensures inodes c.in_ok-add_tables.ensures c.in_ok-add_pack.ensures c.head-tail.ensures

pub returns-clause-most : goal.returns-clause-most
returns-clause-most c =
    let inodes = subst (λ (rows : List Row). AddsInodes rows c.in_ok-draft.draft.places c.in_ok-draft.draft.blocks.items c.add_inodes.new.blocks.items) (ap rows_at c.as_slice.ensures.value ∙ c.in_ok-rows_of.ensures) c.in_ok-add_inodes.ensures in
    most_blocks c.args.next c.args.tree.now c.args.old.now c.in_ok-draft.draft.places c.in_ok-draft.draft.blocks.items c.add_inodes.new.blocks.items c.add_tables.new.blocks.items c.add_pack.new.blocks.items c.head-tail.result
    c.requires.storable c.in_ok-draft.ensures inodes c.in_ok-add_tables.ensures c.in_ok-add_pack.ensures c.head-tail.ensures
