use Rattle.std.proofs.Common.{ℕ, List, ◌∙◌, sym, subst}
use Rattle.std.specs.List.Sorted.{IsStrictlyIncreasing}
use Rattle.std.specs.Ordering.{nat_cmp}
use Rattle.std.specs.FinMap as map
use Rattle.std.proofs.lemmas.Map.Keys.{IsStrictlyIncreasing-from_sorted}
use Rattle.f2_files.proofs.Naming.{keys_sorted}
use Rattle.f2_since.proofs.room.size_of_file.Goals as goal

pub nodes_of-requires-clause-rising : goal.nodes_of-requires-clause-rising
nodes_of-requires-clause-rising c =
    subst (λ (numbers : List ℕ). IsStrictlyIncreasing numbers) (sym (c.deref-2.ensures.value ∙ c.in_ok-numbers.ensures))
    (IsStrictlyIncreasing-from_sorted (map.keys c.args.pages.now) (keys_sorted nat_cmp (map.entries c.args.pages.now) (map.entries_sorted c.args.pages.now)))
