use Rattle.f2_script.proofs.ScriptLaws.{reads_back}
use Rattle.f2_script.proofs.laws.reads_back.Goals as goal

pub returns : goal.returns
returns c = reads_back
