use Rattle.f2_disk.specs.Contents.{zeros}
use Rattle.f2_disk.proofs.ContentsLaws.{told_then}
use Rattle.f2_disk.proofs.UsingLaws.{writes_then}
use Rattle.f2_plain_save.proofs.Cleared.{cleared_more}
use Rattle.f2_plain_save.proofs.Told.{told_both}
use Rattle.f2_plain_save.proofs.blanks.clear.Goals as goal

pub loop-at-preserved : goal.loop-at-preserved
unfolding zeros
loop-at-preserved g c =
    record {
      cleared = told_then _ _ _ _ _ _ (cleared_more c.loop-at.at) c.loop-at.invariant.cleared (told_both _ _ _ _ c.in_ok-write_block.ensures.put c.in_ok-write_block.ensures.added);
      writes = writes_then c.loop-at.at 1 _ _ _ _ _ c.loop-at.invariant.writes c.write_block.ensures.writes;
    }
