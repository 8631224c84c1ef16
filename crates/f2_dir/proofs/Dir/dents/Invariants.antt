use Rattle.std.proofs.Common.{◌≡◌, ◌++◌}
use Rattle.f2_dir.proofs.Listed.{dents_in}
use Rattle.f2_dir.proofs.Dir.dents.Given as goal

abbrev pub invariant-loop-name : goal.invariant-loop-name
invariant-loop-name l = l.dents.items ++ dents_in (λ k. k.items) l.name-iterator ≡ dents_in (λ k. k.items) l.self-inside.entries.entries
