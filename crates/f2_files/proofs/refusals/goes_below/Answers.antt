use Rattle.std.proofs.Common.{Bool, ◌&&◌, length, take, ap, sym, ◌∙◌, arith}
use Rattle.std.specs.Cmp.Lexicographic.{pointwise}
use Rattle.std.proofs.lemmas.Bool.{lt-ltb}
use Rattle.f2_model.specs.Names.{same_name}
use Rattle.f2_spans.proofs.Agreed.{agreed, and_true}
use Rattle.f2_files.proofs.refusals.goes_below.Goals as goal

pub returns-then-top-path : goal.returns-then-top-path
returns-then-top-path c =
    let path = c.args.path.now in
    let top = c.args.top.now in
    let begins : Bool = pointwise same_name top (take (length top) path) in
    c.agree.ensures ∙ agreed same_name top path (omega arith) ∙ sym (ap (λ b. begins && b) (lt-ltb (length top) (length path) c.if-top-path.true) ∙ and_true begins)
