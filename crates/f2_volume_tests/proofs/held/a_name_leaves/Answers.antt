use Rattle.std.proofs.Common.{◌∙◌, ap}
use Rattle.std.specs.FinMap as map
use Rattle.f2_held.specs.Taken.{Taken}
use Rattle.f2_held.proofs.MapSums.{bound_has, opened_has}
use Rattle.f2_volume_tests.proofs.held.a_name_leaves.Goals as goal

pub bind-requires-clause-parent : goal.bind-requires-clause-parent
bind-requires-clause-parent g = ap (λ (taken : Taken). map.contains_key taken.directories 3) g.in_ok-dir.ensures.ok ∙ opened_has _ 3

pub leave-requires : goal.leave-requires
leave-requires g = ap (λ (taken : Taken). map.contains_key taken.directories 3) g.in_ok-bind.ensures.ok ∙ bound_has _ 3 _
