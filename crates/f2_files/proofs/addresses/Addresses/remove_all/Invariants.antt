use Rattle.std.proofs.Common.{◌≡◌, take}
use Rattle.f2_files.specs.Shape.{without_all_pages}
use Rattle.f2_files.proofs.addresses.Addresses.remove_all.Given as goal

-- the pages so far are out
abbrev pub invariant-loop-page : goal.invariant-loop-page
invariant-loop-page l = l.self ≡ without_all_pages l.initial.self (take l.page-index l.numbers)
