use Rattle.std.proofs.Common.{◌≡◌, drop}
use Rattle.f2_pieces.specs.Zeros.{without}
use Rattle.f2_pieces.proofs.zeros.take_out.Given as goal

-- the pages that are left, taken out from here on, come to all of them
abbrev pub invariant-loop-number : goal.invariant-loop-number
invariant-loop-number l = without l.pages (drop l.number-index l.numbers) ≡ without l.fn.pages l.numbers
