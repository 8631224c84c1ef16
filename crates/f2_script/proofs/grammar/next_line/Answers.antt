use Rattle.std.proofs.Common.{◌<◌, length, arith}
use Rattle.std.proofs.lemmas.Grind.{common_steps}
use Rattle.f2_script.proofs.LineTexts.{lines_cut, lines_whole}
use Rattle.f2_script.proofs.grammar.next_line.Goals as goal

pub returns-in-Some-clause-line : goal.returns-in-Some-clause-line
returns-in-Some-clause-line c = lines_cut _ _ _ c.in-Some.ensures

pub returns-clause-line : goal.returns-clause-line
returns-clause-line c =
    let some : 0 < length c.args.text.now = grind (arith, common_steps) in
    lines_whole c.args.text.now some c.in_default.ensures
