use Rattle.std.proofs.Common.{ap, ◌∙◌}
use Rattle.f2_files.specs.Led.{Dirs, with_name, without_name}
use Rattle.f2_files.proofs.Renaming.{bound_back}
use Rattle.f2_files.proofs.renames.bind_moved.Goals as goal

pub returns-in-Err-clause-err_names : goal.returns-in-Err-clause-err_names
returns-in-Err-clause-err_names c =
    let dirs = c.args.directories.now in
    let at = c.args.directory in
    let name = c.args.name.now in
    c.unbind.ensures ∙ ap (λ (d : Dirs). without_name d at name) c.in_ok-bind.ensures.ok
    ∙ ap (λ n. without_name (with_name dirs at n (c.args.row.0, c.args.row.1)) at name) c.in_ok-key.ensures
    ∙ bound_back dirs at name (c.args.row.0, c.args.row.1) c.requires
