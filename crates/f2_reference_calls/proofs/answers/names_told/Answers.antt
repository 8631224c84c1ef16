use Rattle.std.proofs.Common.{ap, ◌∙◌}
use Rattle.std.specs.FinMap as map
use Rattle.f2_model.specs.declared.replies.Reply.TheVariants.{Names}
use Rattle.f2_reference_calls.specs.Given.{listed, rows_at}
use Rattle.f2_reference_calls.proofs.Listed.{listed-rising}
use Rattle.f2_reference_calls.proofs.answers.names_told.Goals as goal

pub returns : goal.returns
returns c =
    let ino = c.args.directory.now.ino in
    ap (λ names. Names names) (
    c.in_ok-names.ensures
    ∙ ap (λ rows. listed (rows_at rows) ino) c.as_slice.ensures.value
    ∙ ap (λ rows. listed rows ino) c.in_ok-rows.ensures
    ∙ listed-rising (map.values c.args.tree.now) ino)
