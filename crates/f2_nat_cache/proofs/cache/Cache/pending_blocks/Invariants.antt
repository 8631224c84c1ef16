use Rattle.std.proofs.Common.{◌≡◌, length}
use Rattle.std.specs.Prelude.{filter}
use Rattle.std.specs.List.{range_with_len}
use Rattle.f2_nat_cache.specs.Plan.{is_pending_block}
use Rattle.f2_nat_cache.proofs.cache.Cache.pending_blocks.Given as goal

abbrev pub invariant-loop-block : goal.invariant-loop-block
invariant-loop-block l = l.count ≡ length (filter (is_pending_block l.self) (range_with_len 0 l.block))
