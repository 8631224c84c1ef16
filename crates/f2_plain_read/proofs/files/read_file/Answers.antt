use Rattle.std.proofs.Common.{◌∙◌}
use Rattle.f2_plain_read.proofs.Pages.{file_read, no_file}
use Rattle.f2_plain_read.proofs.files.read_file.Goals as goal

pub returns-clause-file : goal.returns-clause-file
returns-clause-file g c = file_read c.deref.result.now c.args.ino c.args.at _ (λ image t. c.deref.ensures ∙ c.in_ok-read_block.ensures.content image t) c.file_in.result c.ok_or.result c.ok_or.ensures.value c.file_in.ensures.file

pub returns-clause-bad : goal.returns-clause-bad
returns-clause-bad g c bad image t row place own inode =
    absurd (no_file c.deref.result.now c.args.ino c.args.at _ (λ image t. c.deref.ensures ∙ c.in_ok-read_block.ensures.content image t) c.file_in.result c.ok_or.result c.ok_or.ensures.value c.file_in.ensures.none bad image t row place own inode)
