use Rattle.std.proofs.Common.{◌≡◌, ◌+◌, ◌^◌, ◌%◌, drop}
use Rattle.std.specs.List.{sum_by}
use Rattle.f2_script.specs.Trees.{page_weight, weight_of}
use Rattle.f2_script.proofs.weights.weight.Given as goal

abbrev pub invariant-loop-page : goal.invariant-loop-page
invariant-loop-page l = (l.sum + sum_by (page_weight l.pages) (drop l.page-index l.page-items)) % 2 ^ 64 ≡ weight_of l.pages
