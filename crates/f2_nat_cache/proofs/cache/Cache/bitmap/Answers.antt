use Rattle.std.proofs.Common.{true, false, sym, ◌∙◌}
use Rattle.f2_format.specs.Nat.{with_other_copy}
use Rattle.f2_nat_cache.specs.Plan.{is_pending_block}
use Rattle.f2_nat_cache.proofs.Lists.{fold-filter_more}
use Rattle.f2_nat_cache.proofs.cache.Cache.bitmap.Goals as goal
use Rattle.f2_nat_cache.proofs.cache.Cache.bitmap.Goals.{then-is_pending, else-is_pending}

pub loop-block-preserved : goal.loop-block-preserved
loop-block-preserved c = elim c.if-is_pending.branch [
  | then-is_pending w ↦ fold-filter_more with_other_copy c.args.self.now.bitmap (is_pending_block c.args.self.now) c.loop-block.block c.loop-block.bitmap c.if-is_pending.bitmap true c.loop-block.invariant (sym w.if-is_pending.ensures) (w.bitmap-is ∙ w.flip.ensures.flipped)
  | else-is_pending w ↦ fold-filter_more with_other_copy c.args.self.now.bitmap (is_pending_block c.args.self.now) c.loop-block.block c.loop-block.bitmap c.if-is_pending.bitmap false c.loop-block.invariant (sym w.if-is_pending.ensures) w.bitmap-is
]
