use Rattle.std.proofs.Common.{◌≡◌, ℕ, ◌+◌, ◌-◌, ◌==◌}
use Rattle.std.specs.List.{filter_map, find, list_any}
use Rattle.std.specs.FinMap as map
use Rattle.f2_model.specs.Fallback.{frozen_ino}
use Rattle.f2_model.specs.Rising.{rising}
use Rattle.f2_files.proofs.Thawed.{thawed, thawed_from}
use Rattle.f2_files.proofs.pairs.Pairs.first_thawed.Given as goal

abbrev pub invariant-loop-pair : goal.invariant-loop-pair
invariant-loop-pair l =
    let frozen = λ (n : ℕ). list_any (λ one. one == n) (filter_map frozen_ino (map.values l.flights)) in
    find (thawed frozen) (rising l.self) ≡ find (thawed_from frozen l.from) (rising l.self)

abbrev pub decreases-loop-pair : goal.decreases-loop-pair
decreases-loop-pair l = l.last + 1 - l.from
