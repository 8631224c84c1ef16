use Rattle.std.proofs.Common.{◌≡◌, ◌++◌}
use Rattle.f2_dir.specs.Entries.{dents_of}
use Rattle.f2_found.proofs.Copies.{IsCopyOf}
use Rattle.f2_found.proofs.copying.copied_names.Given as goal

abbrev pub invariant-loop-dent : goal.invariant-loop-dent
invariant-loop-dent l = record {
  all : l.yielded ++ l.dent-iterator.rest.items ≡ dents_of l.fn.directory;
  copied : IsCopyOf l.yielded l.names;
}
