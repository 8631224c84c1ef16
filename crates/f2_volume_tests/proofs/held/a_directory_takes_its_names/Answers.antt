use Rattle.std.proofs.Common.{◌∙◌, ap}
use Rattle.std.specs.FinMap as map
use Rattle.f2_held.specs.Taken.{Taken}
use Rattle.f2_held.proofs.MapSums.{opened_has}
use Rattle.f2_volume_tests.proofs.held.a_directory_takes_its_names.Goals as goal

pub bind-requires-clause-parent : goal.bind-requires-clause-parent
bind-requires-clause-parent g = ap (λ (taken : Taken). map.contains_key taken.directories 3) g.in_ok-dir.ensures.ok ∙ opened_has _ 3
