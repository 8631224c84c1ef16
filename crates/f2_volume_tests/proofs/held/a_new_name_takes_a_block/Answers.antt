use Rattle.std.proofs.Common.{◌∙◌, ap}
use Rattle.std.specs.FinMap as map
use Rattle.f2_held.specs.Taken.{Taken}
use Rattle.f2_held.proofs.MapSums.{opened_has}
use Rattle.f2_volume_tests.proofs.held.a_new_name_takes_a_block.Goals as goal

pub with-requires-clause-parent : goal.with-requires-clause-parent
with-requires-clause-parent g = ap (λ (taken : Taken). map.contains_key taken.directories 3) g.in_ok-dir.ensures.ok ∙ opened_has _ 3
