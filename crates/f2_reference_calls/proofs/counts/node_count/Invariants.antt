use Rattle.std.proofs.Common.{◌≡◌, true, drop}
use Rattle.std.specs.List.{flat_map}
use Rattle.std.specs.FinSet as set
use Rattle.f2_format.specs.Offsets.{nodes_of_page}
use Rattle.f2_reference_calls.specs.Given.{StandOnce, set_of, with_all}
use Rattle.f2_reference_calls.proofs.Counted.{of_inode}
use Rattle.f2_reference_calls.proofs.counts.node_count.Given as goal

-- the pages that are left make the set of nodes whole
abbrev pub invariant-loop-page : goal.invariant-loop-page
invariant-loop-page l = record {
  once : StandOnce l.offsets.items;
  root : set.contains (set_of l.offsets.items) 0 ≡ true;
  added : with_all (set_of l.offsets.items) (flat_map nodes_of_page (drop l.page-index l.pages)) ≡ with_all of_inode (flat_map nodes_of_page l.pages);
}
