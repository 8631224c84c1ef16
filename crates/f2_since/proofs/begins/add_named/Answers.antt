use Rattle.std.proofs.Common.{◌∙◌, ap}
use Rattle.std.specs.Prelude.{is_some}
use Rattle.std.specs.FinMap as map
use Rattle.f2_held.specs.Taken.{Taken, and_name, left, names_of}
use Rattle.f2_laws.proofs.Maps.{get_put}
use Rattle.f2_since.proofs.Undone.{left_again}
use Rattle.f2_since.proofs.begins.add_named.Goals as goal

pub leave-requires : goal.leave-requires
leave-requires c =
    let dirs = c.args.held.now.directories in
    let at = c.args.shape.now.parent in
    ap (λ (taken : Taken). map.contains_key taken.directories at) (c.in-Err.ensures.err ∙ c.in_ok-bind.ensures.ok)
    ∙ ap is_some (get_put dirs at (and_name (names_of dirs at) c.args.shape.now.name))

pub returns-in-Err-clause-err : goal.returns-in-Err-clause-err
returns-in-Err-clause-err c =
    let at = c.args.shape.now.parent in
    let name = c.args.shape.now.name in
    c.leave.ensures
    ∙ ap (λ (taken : Taken). record taken { directories = left taken.directories at name }) (c.in-Err.ensures.err ∙ c.in_ok-bind.ensures.ok)
    ∙ ap (λ dirs. record c.args.held.now { directories = dirs }) (left_again c.args.held.now.directories at name c.requires.open c.requires.absent)
