use Rattle.std.proofs.Common.{◌≡◌}
use Rattle.std.specs.Prelude.{filter}
use Rattle.std.specs.List.{range_with_len}
use Rattle.f2_nat_cache.specs.Plan.{flipped, is_pending_block}
use Rattle.f2_nat_cache.proofs.cache.Cache.bitmap.Given as goal

abbrev pub invariant-loop-block : goal.invariant-loop-block
invariant-loop-block l = l.bitmap ≡ flipped l.self.bitmap (filter (is_pending_block l.self) (range_with_len 0 l.block))
