use Rattle.f2_disk.proofs.ContentsLaws.{told_weaker}
use Rattle.std.proofs.lemmas.Result.{on_ok_weaker}
use Rattle.f2_plain_save.proofs.Told.{either_way}
use Rattle.f2_plain_save.proofs.Writes.{written_adds, failed_adds, written_puts}
use Rattle.f2_plain_save.proofs.writing.write_block.Goals as goal

pub returns-clause-put : goal.returns-clause-put
returns-clause-put g c = on_ok_weaker c.write.result (told_weaker _ _ _ _ (written_puts c.args.at c.args.block.now)) c.write.ensures.written

pub returns-clause-added : goal.returns-clause-added
returns-clause-added g c =
    either_way c.write.result _ _ _ (told_weaker _ _ _ _ (written_adds c.args.at c.args.block.now)) (told_weaker _ _ _ _ (failed_adds c.args.at c.args.block.now)) c.write.ensures.written c.write.ensures.failed
