use Rattle.std.proofs.Common.{◌≡◌, map, None, Option, replicate, List, ℕ}
use Rattle.std.specs.Option.{option_map}
use Rattle.f2_nat_cache.proofs.cache.Cache.new.Given as goal

abbrev pub invariant-loop : goal.invariant-loop
invariant-loop l = let none : Option (List ℕ) = None in map (option_map (λ b. b.value)) l.held.items ≡ replicate l.counter none
