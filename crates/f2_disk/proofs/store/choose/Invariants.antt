use Rattle.std.proofs.Common.{◌-◌, ℕ, length}
use Rattle.f2_disk.proofs.ChooseLaws.{IsChosen}
use Rattle.f2_disk.proofs.store.choose.Given as goal

abbrev pub invariant-loop-next : goal.invariant-loop-next
invariant-loop-next l =
    (done : ℕ) × IsChosen l.pick l.initial.newest l.initial.older done l.next l.rest l.newest l.older

abbrev pub decreases-loop-next : goal.decreases-loop-next
decreases-loop-next l = length l.initial.older - l.next
