use Rattle.std.proofs.Common.{true, false, sym, arith}
use Rattle.f2_nat_cache.specs.Plan.{is_pending_block}
use Rattle.f2_nat_cache.proofs.Lists.{length-filter-range, length-filter_more}
use Rattle.f2_nat_cache.proofs.cache.Cache.pending_blocks.Goals as goal
use Rattle.f2_nat_cache.proofs.cache.Cache.pending_blocks.Goals.{then-is_pending, else-is_pending}

pub overflow_add-count : goal.overflow_add-count
overflow_add-count c = omega (arith, c.loop-block.invariant, length-filter-range (is_pending_block c.args.self.now) c.loop-block.block)

pub loop-block-preserved : goal.loop-block-preserved
loop-block-preserved c = elim c.if-is_pending.branch [
  | then-is_pending w ↦ length-filter_more (is_pending_block c.args.self.now) c.loop-block.block c.loop-block.count c.if-is_pending.count true c.loop-block.invariant (sym w.if-is_pending.ensures) w.count-is
  | else-is_pending w ↦ length-filter_more (is_pending_block c.args.self.now) c.loop-block.block c.loop-block.count c.if-is_pending.count false c.loop-block.invariant (sym w.if-is_pending.ensures) w.count-is
]
