use Rattle.std.proofs.Common.{◌≡◌}
use Rattle.std.specs.Prelude.{filter, map, nat_lt}
use Rattle.std.specs.List.{range_with_len}
use Rattle.f2_nat_cache.specs.Entries.{count_in}
use Rattle.f2_nat_cache.proofs.cache.Cache.sets.Given as goal

abbrev pub invariant-loop-block : goal.invariant-loop-block
invariant-loop-block l = l.sets.items ≡ filter (λ set. nat_lt 0 set.1) (map (λ block. (block, count_in l.self-inside.dirty.entries block)) (range_with_len 0 l.block))
