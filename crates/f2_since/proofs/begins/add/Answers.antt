use Rattle.std.proofs.Common.{◌∙◌, sym, ap}
use Rattle.f2_files.proofs.Results.{ok_map}
use Rattle.f2_held.specs.Taken.{raised}
use Rattle.f2_since.proofs.Undone.{bound_again}
use Rattle.f2_since.proofs.begins.add.Goals as goal

pub returns-then-is_bound-clause-ok : goal.returns-then-is_bound-clause-ok
returns-then-is_bound-clause-ok c =
    let again = bound_again c.args.held.now.directories c.args.shape.now.parent c.args.shape.now.name c.requires.open (sym c.requires.bound ∙ c.if-is_bound.true) in
    ok_map c.add.result (λ added. added ∙ ap (λ dirs. record { files = raised c.args.held.now.files c.args.shape.now.ino c.args.size; directories = dirs }) (sym again)) c.add.ensures.ok
