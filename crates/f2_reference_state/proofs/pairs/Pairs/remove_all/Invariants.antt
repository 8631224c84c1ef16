use Rattle.std.proofs.Common.{◌≡◌, take}
use Rattle.f2_model.specs.State.{without_pairs}
use Rattle.f2_reference_state.proofs.pairs.Pairs.remove_all.Given as goal

-- the numbers so far are out
abbrev pub invariant-loop-number : goal.invariant-loop-number
invariant-loop-number l = l.self ≡ without_pairs l.ino l.initial.self (take l.number-index l.numbers)
