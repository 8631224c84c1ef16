use Rattle.std.proofs.Common.{ap, ◌∙◌}
use Rattle.std.specs.FinMap as map
use Rattle.f2_files.proofs.Changes.{put_taken}
use Rattle.f2_files.proofs.Results.{on_err}
use Rattle.f2_files.proofs.creates.put_named.Goals as goal

pub returns-then-is_err-clause-err_rows : goal.returns-then-is_err-clause-err_rows
returns-then-is_err-clause-err_rows c =
    on_err _ (c.remove.ensures.left ∙ ap (λ m. map.remove m c.args.row.ino) c.in_ok-put.ensures.ok ∙ put_taken c.args.shapes.now c.args.row.ino c.args.row c.requires)
