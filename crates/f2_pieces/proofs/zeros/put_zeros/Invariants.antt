use Rattle.std.proofs.Common.{◌≡◌, drop}
use Rattle.f2_pieces.specs.Zeros.{with_zeros, without}
use Rattle.f2_pieces.proofs.zeros.put_zeros.Given as goal

-- the zeros that are left, put from here on, come to all of them; and all other pages are as they were
abbrev pub invariant-loop-number : goal.invariant-loop-number
invariant-loop-number l =
    (with_zeros l.pages (drop l.number-index l.numbers) ≡ with_zeros l.fn.pages l.numbers)
    × (without l.pages l.numbers ≡ without l.fn.pages l.numbers)
