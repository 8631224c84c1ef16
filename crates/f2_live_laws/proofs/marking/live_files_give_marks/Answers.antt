use Rattle.f2_live_laws.proofs.Marked.{live_files_give_marks}
use Rattle.f2_live_laws.proofs.marking.live_files_give_marks.Goals as goal

pub returns : goal.returns
returns c = live_files_give_marks
