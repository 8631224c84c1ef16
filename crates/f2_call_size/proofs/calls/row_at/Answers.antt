use Rattle.std.proofs.Common.{Some, None, refl, sym, ap, subst, ◌∙◌}
use Rattle.std.specs.Option.{option_copied}
use Rattle.std.specs.Result.{result_ok}
use Rattle.f2_model.specs.Tree.{walk}
use Rattle.f2_call_size.specs.Calls.{IsInoAt, IsShapeAt}
use Rattle.f2_call_size.proofs.Ends.{ino_found, shape_found}
use Rattle.f2_call_size.proofs.calls.row_at.Goals as goal

pub returns-in_err-ino : goal.returns-in_err-ino
returns-in_err-ino c = λ most tree good are.
    let none = sym c.in_err-ino.was ∙ c.ok.ensures.value ∙ ap result_ok (c.walk.ensures most tree good are) in
    let at : IsInoAt tree c.args.path.now None = ino_found most tree good c.args.path.now (walk tree c.args.path.now) refl None none in
    subst (λ o. IsShapeAt tree c.args.path.now (option_copied o)) (sym c.from_residual.ensures) at

pub returns : goal.returns
returns c = λ most tree good are.
    let some = sym c.in_ok-ino.was ∙ c.ok.ensures.value ∙ ap result_ok (c.walk.ensures most tree good are) in
    let at = ino_found most tree good c.args.path.now (walk tree c.args.path.now) refl (Some c.in_ok-ino.ino) some in
    subst (λ o. IsShapeAt tree c.args.path.now o) (sym c.row.ensures) (shape_found most tree good c.args.path.now c.args.files.now.shapes are c.in_ok-ino.ino at)
