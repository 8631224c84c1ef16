use Rattle.std.proofs.Common.{sym, ap, ◌∙◌, Some}
use Rattle.std.specs.Option.{option_copied}
use Rattle.f2_found.proofs.NameSteps.{up_to_none, up_to_with, up_to_without}
use Rattle.f2_found.proofs.naming.base_names.Goals as goal
use Rattle.f2_found.proofs.naming.base_names.Goals.{in-Some+in_ok-copied_names+in_ok-put, in_default}

pub loop-directory-init : goal.loop-directory-init
loop-directory-init c = up_to_none c.args.walk.now.names _ c.new-names.ensures

pub loop-directory-preserved : goal.loop-directory-preserved
loop-directory-preserved c =
    let known = c.args.walk.now.names in
    let directory = c.loop-directory.directory in
    elim c.match-get.branch [
      | in-Some+in_ok-copied_names+in_ok-put w ↦
          up_to_with known directory c.loop-directory.names _ c.loop-directory.invariant _ (sym c.get.ensures ∙ ap (λ o. option_copied o) w.in-Some.is ∙ ap Some (sym w.in_ok-copied_names.ensures)) (w.names-is ∙ w.in_ok-put.ensures.ok)
      | in_default w ↦ up_to_without known directory c.loop-directory.names _ c.loop-directory.invariant (sym c.get.ensures ∙ ap (λ o. option_copied o) w.in_default.is) w.names-is
    ]
