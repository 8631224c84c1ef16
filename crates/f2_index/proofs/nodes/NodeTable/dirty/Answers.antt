use Rattle.std.proofs.Common.{eqb, nat_cmp, sym, ap, subst, ◌∙◌}
use Rattle.std.specs.Ordering.{eq_by_cmp}
use Rattle.std.specs.List.Sorted.{IsPermutation}
use Rattle.std.proofs.lemmas.List.Elements.{same_from_all_zip}
use Rattle.std.proofs.lemmas.List.Sorted.{list_any-IsPermutation, IsNonDecreasingBy-from_sort}
use Rattle.std.proofs.lemmas.Map.Keys.{IsDistinct-IsPermutation, IsStrictlyIncreasing-from_distinct}
use Rattle.f2_index.specs.Nodes.{dirty_of}
use Rattle.f2_index.proofs.Listed.{IsDistinct-listed, eqb-flips}
use Rattle.f2_index.proofs.Slots.{from_list-kept}
use Rattle.f2_index.proofs.nodes.NodeTable.dirty.Goals as goal

pub returns-clause-dirty : goal.returns-clause-dirty
returns-clause-dirty c =
    let copied = same_from_all_zip _ c.self.inside.dirty.items c.in_ok-offsets.offsets.items c.in_ok-offsets.ensures.cases.0 (λ x y same. same) in
    let moved = subst (λ xs. IsPermutation xs c.sort_unstable.new.self.items) copied c.sort_unstable.ensures.permutation in
    from_list-kept c.self.inside.slots c.self.inside.dirty.items _ c.self.invariant c.sort_unstable.new.self.items
    (λ q. sym (list_any-IsPermutation (eq_by_cmp nat_cmp q) c.self.inside.dirty.items c.sort_unstable.new.self.items moved))
    ∙ ap dirty_of c.self.view_is

pub returns-clause-rising : goal.returns-clause-rising
returns-clause-rising c =
    let copied = same_from_all_zip _ c.self.inside.dirty.items c.in_ok-offsets.offsets.items c.in_ok-offsets.ensures.cases.0 (λ x y same. same) in
    let moved = subst (λ xs. IsPermutation xs c.sort_unstable.new.self.items) copied c.sort_unstable.ensures.permutation in
    IsStrictlyIncreasing-from_distinct c.sort_unstable.new.self.items
    (IsNonDecreasingBy-from_sort (λ x. x) c.sort_unstable.new.self.items c.sort_unstable.ensures.sorted)
    (IsDistinct-IsPermutation eqb eqb-flips c.self.inside.dirty.items c.sort_unstable.new.self.items moved
    (IsDistinct-listed _ c.self.inside.dirty.items c.self.invariant.are_listed))
