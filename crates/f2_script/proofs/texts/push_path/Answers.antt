use Rattle.std.proofs.Common.{◌<◌, ◌++◌, ◌∙◌, ap, length, arith}
use Rattle.std.proofs.lemmas.Grind.{common_steps}
use Rattle.std.proofs.lemmas.Result.{on_ok_weaker}
use Rattle.f2_script.specs.Replies.{names_text}
use Rattle.f2_script.proofs.PathLemmas.{path_by_names}
use Rattle.f2_script.proofs.texts.push_path.Goals as goal

pub returns : goal.returns
returns c =
    let some : 0 < length c.args.path.now = grind (arith, common_steps) in
    let same = ap (λ names. names_text 47 names) c.as_slice-names.ensures ∙ path_by_names c.args.path.now some in
    on_ok_weaker c.push_names.result (λ e. e ∙ ap (λ end. c.args.text.now.items ++ end) same) c.push_names.ensures
