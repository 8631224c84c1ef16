use Rattle.std.proofs.Common.{◌≡◌, drop}
use Rattle.f2_reference_calls.proofs.Copied.{with_keys}
use Rattle.f2_reference_calls.proofs.copies.copy_pages.Given as goal

-- the pages that are left make the copy whole
abbrev pub invariant-loop-number : goal.invariant-loop-number
invariant-loop-number l = with_keys l.pages l.copy (drop l.number-index l.number-items) ≡ l.pages
