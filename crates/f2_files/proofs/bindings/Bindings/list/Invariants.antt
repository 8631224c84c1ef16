use Rattle.std.proofs.Common.{◌≡◌, ◌++◌}
use Rattle.f2_files.proofs.Placed.{names_from}
use Rattle.f2_files.proofs.bindings.Bindings.list.Given as goal

-- the names so far and those that are left are all
abbrev pub invariant-loop-name : goal.invariant-loop-name
invariant-loop-name l = l.names.items ++ names_from (λ k. k.items) l.name-iterator ≡ names_from (λ k. k.items) l.self-inside.names.entries
