use Rattle.std.proofs.Common.{false}
use Rattle.f2_script.specs.Grammar.{lines_of}
use Rattle.f2_script.proofs.LineKinds.{one_line}
use Rattle.f2_script.proofs.ScriptLaws.{one_reading}
use Rattle.f2_script.proofs.laws.one_reading.Goals as goal

pub returns : goal.returns
returns c = record {
  line = one_line;
  script = λ grammar bytes a b h k. one_reading grammar false (lines_of bytes) a b h k;
}
