use Rattle.std.proofs.Common.{◌≡◌, ◌+◌, ◌*◌}
use Rattle.f2_nat_cache.specs.Plan.{merged_below}
use Rattle.f2_nat_cache.proofs.pending.append_new.Given as goal

abbrev pub invariant-loop-place : goal.invariant-loop-place
invariant-loop-place l = l.into ≡ merged_below l.dirty.entries l.journal (455 * l.block + l.place)
