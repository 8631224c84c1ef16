use Rattle.std.specs.Cmp.{nat_cmp_total}
use Rattle.std.specs.Cmp.Lexicographic.{nat_list_cmp_total}
use Rattle.std.specs.FinMap.{nat_cmp-IsAntisymmetric, slice_cmp-IsAntisymmetric}
use Rattle.f2_laws.proofs.Orders.{pair_cmp_total, pair_cmp-IsAntisymmetric, in_order}
use Rattle.f2_laws.proofs.order.members_are_in_order.Goals as goal

pub returns-clause-inos : goal.returns-clause-inos
returns-clause-inos c = in_order nat_cmp_total nat_cmp-IsAntisymmetric

pub returns-clause-names : goal.returns-clause-names
returns-clause-names c = in_order nat_list_cmp_total (slice_cmp-IsAntisymmetric nat_cmp-IsAntisymmetric)

pub returns-clause-pairs : goal.returns-clause-pairs
returns-clause-pairs c = in_order pair_cmp_total pair_cmp-IsAntisymmetric
