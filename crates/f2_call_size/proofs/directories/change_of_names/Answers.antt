use Rattle.std.proofs.Common.{ap, subst, ◌∙◌}
use Rattle.std.specs.Option.{option_copied}
use Rattle.std.specs.FinMap as map
use Rattle.f2_format.specs.Packing.{blocks_of_names}
use Rattle.f2_files.specs.Packed.{names_after}
use Rattle.f2_held.specs.Sums.{of_blocks}
use Rattle.f2_model.specs.Fallback.{Both}
use Rattle.f2_model.specs.Rising.{rising}
use Rattle.f2_model.specs.Tree.{names_in}
use Rattle.f2_call_size.specs.Sizes.{IsDifference}
use Rattle.f2_call_size.proofs.directories.change_of_names.Goals as goal

pub returns-clause-change : goal.returns-clause-change
returns-clause-change c = λ most tree row good are there kind.
    let before = c.in_ok-before.ensures.size ∙ ap of_blocks (c.blocks_after.ensures most tree row good are there kind) in
    let after = c.in_ok-after.ensures.size ∙ ap of_blocks (c.blocks_after-2.ensures most tree row good are there kind) in
    subst (λ (b : Both). IsDifference b (of_blocks (blocks_of_names (rising (names_after (option_copied c.args.gone) (option_copied c.args.come) (names_in (map.values tree) c.args.directory))))) c.change.result) before
    (subst (λ (a : Both). IsDifference c.in_ok-before.before a c.change.result) after c.change.ensures.difference)
