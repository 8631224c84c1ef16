use Rattle.std.proofs.Common.{◌≡◌, ◌++◌}
use Rattle.f2_reference_calls.specs.Given.{listed, rows_at}
use Rattle.f2_reference_calls.proofs.Listed.{names_at}
use Rattle.f2_reference_calls.proofs.listings.names_in.Given as goal

-- the names that are left, behind those so far, are all of them
abbrev pub invariant-loop-name : goal.invariant-loop-name
invariant-loop-name l = l.names ++ names_at l.name-iterator ≡ listed (rows_at l.rows) l.directory
