use Rattle.f2_leaf_tests.specs.NatCaches.{IsHeld}
use Rattle.f2_leaf_tests.proofs.nat_cache.change.Given as goal

-- the block stays held
abbrev pub invariant-loop-nid : goal.invariant-loop-nid
invariant-loop-nid l = IsHeld l.cache
