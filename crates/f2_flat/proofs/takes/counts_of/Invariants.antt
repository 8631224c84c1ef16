use Rattle.std.proofs.Common.{◌≡◌, ◌+◌}
use Rattle.std.specs.List.{sum_by}
use Rattle.f2_flat.specs.Kept.{slots_of_row, slots_of_tree, pages_of_row, pages_of_tree}
use Rattle.f2_flat.proofs.takes.counts_of.Given as goal

-- the rows that are left make the counts whole
abbrev pub invariant-loop-row : goal.invariant-loop-row
invariant-loop-row l = record {
  slots : l.counts.slots + sum_by slots_of_row l.row-iterator ≡ slots_of_tree l.tree;
  pages : l.counts.pages + sum_by pages_of_row l.row-iterator ≡ pages_of_tree l.tree;
}
