use Rattle.f2_plain_read.specs.Points.{HaveOneCopy}
use Rattle.f2_plain_read.proofs.ckpt.is_one_copy.Given as goal

abbrev pub invariant-loop-block : goal.invariant-loop-block
invariant-loop-block l = HaveOneCopy l.bitmap l.block l.second
