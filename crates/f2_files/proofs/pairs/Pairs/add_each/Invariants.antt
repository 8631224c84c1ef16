use Rattle.std.proofs.Common.{◌≡◌, take}
use Rattle.f2_model.specs.State.{with_pairs, without_pairs}
use Rattle.f2_files.proofs.pairs.Pairs.add_each.Given as goal

abbrev pub invariant-loop-number : goal.invariant-loop-number
invariant-loop-number l = record {
  all : l.self ≡ with_pairs l.ino l.initial.self (take l.number-index l.numbers);
  undo : without_pairs l.ino l.self l.added.items ≡ l.initial.self;
}
