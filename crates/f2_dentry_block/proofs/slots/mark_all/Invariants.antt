use Rattle.std.proofs.Common.{◌≡◌, ◌-◌}
use Rattle.f2_format.specs.Dentry.{with_slots_used}
use Rattle.f2_dentry_block.proofs.slots.mark_all.Given as goal

abbrev pub invariant-loop-k : goal.invariant-loop-k
invariant-loop-k l = with_slots_used l.b l.k (l.k-end - l.k) ≡ with_slots_used l.initial.b l.slot l.count
