use Rattle.std.proofs.Common.{ap, ◌∙◌}
use Rattle.std.specs.FinMap as map
use Rattle.f2_files.specs.Led.{Dirs}
use Rattle.f2_files.proofs.Changes.{put_taken}
use Rattle.f2_files.proofs.Results.{err_map}
use Rattle.f2_files.proofs.joins.put_row.Goals as goal

pub returns-then-is_err-clause-err_names : goal.returns-then-is_err-clause-err_names
returns-then-is_err-clause-err_names c =
    err_map c.put_named-done.result (λ kept. c.remove.ensures
    ∙ ap (λ (d : Dirs). map.remove d c.args.row.ino) (kept ∙ c.in_ok-add.ensures.ok)
    ∙ put_taken c.args.directories.now c.args.row.ino map.empty c.requires.unnamed) c.put_named-done.ensures.err_names
