use Rattle.std.proofs.Common.{◌≡◌, ap, ◌∙◌}
use Rattle.std.specs.List.{range_with_len}
use Rattle.f2_format.specs.Offsets.{node_count}
use Rattle.f2_format.specs.Packing.{blocks_of_names}
use Rattle.f2_tree_size.specs.Sizes.{blocks_of_entries}
use Rattle.f2_tree_size.proofs.Blocks.{names_of, dents_names, all_packed}
use Rattle.f2_tree_size.proofs.directories.size_of_directory.Goals as goal

pub returns-clause-blocks : goal.returns-clause-blocks
returns-clause-blocks c =
    all_packed (λ dent. dent.name) (c.loop-dent.blocks, c.loop-dent.taken) c.deref-dent-items.result.now c.loop-dent.dent-index c.loop-dent-test.false c.loop-dent.invariant.whole
    ∙ ap (λ dents. blocks_of_names (names_of dents (λ dent. dent.name))) (c.deref-dent-items.ensures.value ∙ c.in_ok-dents.ensures)
    ∙ ap blocks_of_names (dents_names c.args.names.now)

pub returns-clause-nodes : goal.returns-clause-nodes
returns-clause-nodes c =
    let blocks : c.loop-dent.blocks ≡ blocks_of_entries c.args.names.now =
    all_packed (λ dent. dent.name) (c.loop-dent.blocks, c.loop-dent.taken) c.deref-dent-items.result.now c.loop-dent.dent-index c.loop-dent-test.false c.loop-dent.invariant.whole
    ∙ ap (λ dents. blocks_of_names (names_of dents (λ dent. dent.name))) (c.deref-dent-items.ensures.value ∙ c.in_ok-dents.ensures)
    ∙ ap blocks_of_names (dents_names c.args.names.now) in
    c.nodes_of_first.ensures ∙ ap (λ n. node_count (range_with_len 0 n)) blocks
