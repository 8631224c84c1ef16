use Rattle.std.proofs.Common.{◌==◌, ◌<◌, ◌≤◌, ℕ, get_or}
use Rattle.std.specs.List.{count_by}
use Rattle.f2_recover.proofs.journals.check_nids.Given as goal

abbrev pub invariant-loop-nid : goal.invariant-loop-nid
invariant-loop-nid l = (k : ℕ) → k < l.nid-index → (get_or l.nids k 0 < l.limit) × (count_by (λ one. one == get_or l.nids k 0) l.nids ≤ 1)
