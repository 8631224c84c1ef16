use Rattle.std.proofs.Common.{◌≡◌, ◌∙◌, ◌+◌, List, take, sym, subst, ap, Some, None, Option, IsSome, refl}
use Rattle.std.specs.Borrow.{Bor}
use Rattle.std.specs.Option.{option_copied}
use Rattle.f2_model.specs.declared.rows.Row.{Row}
use Rattle.f2_laid.specs.declared.planned.Planned.{Planned}
use Rattle.f2_plain_plan.specs.Directories.{rows_at}
use Rattle.f2_plain_plan.specs.Inodes.{AddsInodes, HasInode}
use Rattle.f2_plain_plan.proofs.InodeSteps.{inode_more}
use Rattle.f2_plain_plan.proofs.Items.{item_low, item_is, item_has}
use Rattle.f2_plain_plan.proofs.inodes.add_inodes.Goals as goal

is_there : {X : Type 0} (o : Option (Bor X)) (x : X) → option_copied o ≡ Some x → IsSome o
is_there None x e = cc
is_there (Some b) x e = refl

pub unwrap-place-requires : goal.unwrap-place-requires
unwrap-place-requires c =
    let has = item_has (HasInode c.args.places.now) (λ (row : Bor Row). row.now) c.args.rows.now c.loop-row.row-index c.row-item.result c.loop-row-test.true c.row-item.is c.requires in
    is_there c.get.result has.place (c.get.ensures ∙ has.there)

pub inode_of-block-requires-clause-size : goal.inode_of-block-requires-clause-size
inode_of-block-requires-clause-size c =
    (item_has (HasInode c.args.places.now) (λ (row : Bor Row). row.now) c.args.rows.now c.loop-row.row-index c.row-item.result c.loop-row-test.true c.row-item.is c.requires).size

pub inode_of-block-requires-clause-name : goal.inode_of-block-requires-clause-name
inode_of-block-requires-clause-name c =
    (item_has (HasInode c.args.places.now) (λ (row : Bor Row). row.now) c.args.rows.now c.loop-row.row-index c.row-item.result c.loop-row-test.true c.row-item.is c.requires).name

pub loop-row-preserved : goal.loop-row-preserved
loop-row-preserved c =
    let f = λ (row : Bor Row). row.now in
    subst (λ (l : List Planned). AddsInodes (take (c.loop-row.row-index + 1) (rows_at c.args.rows.now)) c.args.places.now c.args.blocks.now.items l) (sym c.in_ok-push.ensures.items)
    (inode_more (rows_at c.args.rows.now) c.loop-row.row-index c.row-item.result.now c.args.places.now c.unwrap-place.result.now c.args.blocks.now.items c.loop-row.blocks.items c.inode_of-block.result
    (item_low f c.args.rows.now c.loop-row.row-index c.loop-row-test.true)
    (item_is f c.args.rows.now c.loop-row.row-index c.row-item.result c.loop-row-test.true c.row-item.is)
    (sym c.get.ensures ∙ ap option_copied c.unwrap-place.ensures)
    c.inode_of-block.ensures.inode c.inode_of-block.ensures.unlogged c.loop-row.invariant)
