use Rattle.std.proofs.Common.{◌≡◌, take}
use Rattle.f2_model.specs.State.{with_pairs}
use Rattle.f2_reference_state.proofs.pairs.Pairs.insert_all.Given as goal

-- the numbers so far are in
abbrev pub invariant-loop-number : goal.invariant-loop-number
invariant-loop-number l = l.self ≡ with_pairs l.ino l.initial.self (take l.number-index l.numbers)
