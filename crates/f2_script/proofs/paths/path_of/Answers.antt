use Rattle.std.proofs.Common.{◌<◌, length, arith}
use Rattle.std.proofs.lemmas.Grind.{common_steps}
use Rattle.f2_script.proofs.PathLemmas.{path_none, path_read}
use Rattle.f2_script.proofs.paths.path_of.Goals as goal

pub returns-in_default : goal.returns-in_default
returns-in_default c = path_none c.args.text.now c.in_default.ensures

pub returns : goal.returns
returns c =
    let some : 0 < length c.in-Some.names.now = grind (arith, common_steps) in
    path_read c.names_of.result c.args.text.now c.in-Some.names.now c.in-Some.ensures some c.names_of.ensures
