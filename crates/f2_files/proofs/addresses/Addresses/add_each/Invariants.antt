use Rattle.std.proofs.Common.{◌≡◌, take}
use Rattle.f2_files.specs.Shape.{with_all_pages, without_all_pages}
use Rattle.f2_files.proofs.addresses.Addresses.add_each.Given as goal

abbrev pub invariant-loop-page : goal.invariant-loop-page
invariant-loop-page l = record {
  all : l.self ≡ with_all_pages l.initial.self (take l.page-index l.numbers);
  undo : without_all_pages l.self l.added.items ≡ l.initial.self;
}
