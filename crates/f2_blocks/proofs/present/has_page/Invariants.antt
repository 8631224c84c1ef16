use Rattle.std.proofs.Common.{◌≡◌, ◌+◌, ◌<◌, ℕ, false}
use Rattle.std.specs.FinMap as map
use Rattle.f2_blocks.proofs.present.has_page.Given as goal

abbrev pub invariant-loop-slot : goal.invariant-loop-slot
invariant-loop-slot g l = (k : ℕ) → k < l.slot → map.contains_key (g.P.PageAddresses.addresses l.index) (l.first + k) ≡ false
