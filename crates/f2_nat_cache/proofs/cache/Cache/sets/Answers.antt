use Rattle.std.proofs.Common.{ℕ, true, false, Vec, Global, ap, ◌∙◌}
use Rattle.f2_nat_cache.specs.Entries.{count_in}
use Rattle.f2_nat_cache.proofs.Lists.{counted_more, positive, not_positive}
use Rattle.f2_nat_cache.proofs.cache.Cache.sets.Goals as goal
use Rattle.f2_nat_cache.proofs.cache.Cache.sets.Goals.{then-count-gt0+in_ok-push, else-count-gt0}

pub loop-block-preserved : goal.loop-block-preserved
loop-block-preserved c = elim c.if-count-gt0.branch [
  | then-count-gt0+in_ok-push w ↦ counted_more (count_in c.self.inside.dirty.entries) c.loop-block.block c.count-count.result c.loop-block.sets.items c.if-count-gt0.sets.items true c.loop-block.invariant c.count-count.ensures (positive c.count-count.result w.if-count-gt0.true) (ap (λ (v : Vec (ℕ × ℕ) Global). v.items) w.sets-is ∙ w.in_ok-push.ensures.items)
  | else-count-gt0 w ↦ counted_more (count_in c.self.inside.dirty.entries) c.loop-block.block c.count-count.result c.loop-block.sets.items c.if-count-gt0.sets.items false c.loop-block.invariant c.count-count.ensures (not_positive c.count-count.result w.if-count-gt0.false) (ap (λ (v : Vec (ℕ × ℕ) Global). v.items) w.sets-is)
]
