use Rattle.std.proofs.Common.{◌≡◌, ◌++◌, map}
use Rattle.f2_dentry_block.specs.Dents.{dentry_of}
use Rattle.f2_plain_read.specs.Bindings.{with_names}
use Rattle.f2_plain_read.proofs.names.Names.bind_all.Given as goal

abbrev pub invariant-loop-name : goal.invariant-loop-name
invariant-loop-name l = record {
  bound : l.self ≡ with_names l.directory l.initial.self (map dentry_of l.yielded);
  all : l.yielded ++ l.name-iterator.rest.items ≡ l.fn.dents.items;
}
