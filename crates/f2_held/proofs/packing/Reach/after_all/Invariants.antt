use Rattle.std.proofs.Common.{◌≡◌, ◌+◌, ◌≤◌, take}
use Rattle.f2_format.specs.Packing.{place_after_all}
use Rattle.f2_held.proofs.packing.Reach.after_all.Given as goal

abbrev pub invariant-loop-name : goal.invariant-loop-name
invariant-loop-name l =
    (l.reach ≡ place_after_all l.initial.reach (take l.name-index l.names)) × (l.reach.1 ≤ 214) × (l.reach.0 ≤ l.initial.reach.0 + l.name-index)
