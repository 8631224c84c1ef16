use Rattle.std.proofs.Common.{◌≡◌, take}
use Rattle.f2_found.specs.Pages.{numbers_of}
use Rattle.f2_found.proofs.pages.FoundPages.numbers.Given as goal

abbrev pub invariant-loop-listed : goal.invariant-loop-listed
invariant-loop-listed l = l.numbers.items ≡ numbers_of (take l.listed-index l.listed-items)
