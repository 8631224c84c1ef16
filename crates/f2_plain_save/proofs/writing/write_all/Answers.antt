use Rattle.f2_disk.proofs.ContentsLaws.{told_then}
use Rattle.f2_disk.proofs.UsingLaws.{writes_then}
use Rattle.f2_plain_save.proofs.Writes.{adds_more, puts_more}
use Rattle.f2_plain_save.proofs.writing.write_all.Goals as goal

pub returns-in_err-write_block-clause-added : goal.returns-in_err-write_block-clause-added
returns-in_err-write_block-clause-added g c =
    told_then _ _ _ _ _ _ (λ a b d. adds_more c.args.blocks.now c.loop-planned.planned-index _ a b d c.loop-planned-test.true) c.loop-planned.invariant.added c.write_block.ensures.added

pub loop-planned-preserved : goal.loop-planned-preserved
loop-planned-preserved g c =
    record {
      put = told_then _ _ _ _ _ _ (λ a b d. puts_more c.args.blocks.now c.loop-planned.planned-index _ a b d c.loop-planned-test.true) c.loop-planned.invariant.put c.in_ok-write_block.ensures.put;
      added = told_then _ _ _ _ _ _ (λ a b d. adds_more c.args.blocks.now c.loop-planned.planned-index _ a b d c.loop-planned-test.true) c.loop-planned.invariant.added c.write_block.ensures.added;
      writes = writes_then c.loop-planned.planned-index 1 _ _ _ _ _ c.loop-planned.invariant.writes c.write_block.ensures.writes;
    }
