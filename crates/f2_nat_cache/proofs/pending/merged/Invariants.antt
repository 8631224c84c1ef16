use Rattle.std.proofs.Common.{◌≡◌, ◌*◌, take}
use Rattle.f2_nat_cache.specs.Plan.{renewed, merged_below}
use Rattle.f2_nat_cache.proofs.pending.merged.Given as goal

abbrev pub invariant-loop-nid : goal.invariant-loop-nid
invariant-loop-nid l = l.merged ≡ renewed l.dirty.entries (take l.nid-index l.journal)

abbrev pub invariant-loop-block : goal.invariant-loop-block
invariant-loop-block l = l.merged ≡ merged_below l.dirty.entries l.journal (455 * l.block)
