use Rattle.std.proofs.Common.{◌≡◌, ◌≢◌, ◌<◌, ℕ, true, get_or}
use Rattle.std.specs.FinSet as set
use Rattle.f2_recover.proofs.closing.check_reached.Given as goal

abbrev pub invariant-loop-nid : goal.invariant-loop-nid
invariant-loop-nid l = (k : ℕ) → k < l.nid → get_or l.table k 0 ≢ 0 → set.contains l.zones.nids k ≡ true
