use Rattle.std.proofs.Common.{◌≡◌, ◌++◌}
use Rattle.f2_recover.specs.Dents.{AreFit}
use Rattle.f2_recover.proofs.names.add_dents.Given as goal

abbrev pub invariant-loop-dent : goal.invariant-loop-dent
invariant-loop-dent l = record {
  dents : l.dents.items ≡ l.initial.dents.items ++ l.yielded;
  fit : AreFit l.yielded;
  all : l.yielded ++ l.dent-iterator.rest.items ≡ l.fn.found.items;
}
