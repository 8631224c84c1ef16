use Rattle.std.proofs.Common.{◌≡◌, ℕ, ◌<◌, ◌≤◌, List, length, Some, IsTrue}
use Rattle.f2_nat_cache.specs.Plan.{held_then, is_pending_block}
use Rattle.f2_nat_cache.specs.Table.{TellsPending, held_block}
use Rattle.f2_nat_cache.proofs.cache.Cache.write_held.Given as goal

abbrev pub invariant-loop-block : goal.invariant-loop-block
invariant-loop-block l =
    record {
      same : l.self ≡ record l.fn.self { held = l.self.held };
      long : length l.self.held ≡ l.fn.self.geom.nat;
      done : (k : ℕ) → k < l.block → held_block l.self k ≡ held_then l.fn.self k;
      rest : (k : ℕ) → l.block ≤ k → held_block l.self k ≡ held_block l.fn.self k;
      told : (k : ℕ) (content : List ℕ) → k < l.block → IsTrue (is_pending_block l.fn.self k) → held_block l.fn.self k ≡ Some content → TellsPending l.fn.self k content;
    }
