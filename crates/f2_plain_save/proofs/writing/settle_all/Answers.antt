use Rattle.f2_disk.proofs.ContentsLaws.{told_weaker}
use Rattle.f2_plain_save.proofs.Writes.{adds_leave, flush_leaves}
use Rattle.f2_plain_save.proofs.writing.settle_all.Goals as goal

pub returns-in_err-write_all-clause-left : goal.returns-in_err-write_all-clause-left
returns-in_err-write_all-clause-left g c = told_weaker _ _ _ _ (adds_leave _) c.in_err-write_all.ensures.added

pub returns-clause-left : goal.returns-clause-left
returns-clause-left g c = flush_leaves _ _ _ _ c.flush.result c.in_ok-write_all.ensures.put c.in_ok-write_all.ensures.added c.flush.ensures.flushed c.flush.ensures.failed
