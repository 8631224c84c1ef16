use Rattle.std.proofs.Common.{◌≡◌, ◌↔◌, IsTrue, true, false, List, sym, ap, subst, ◌∙◌}
use Rattle.std.specs.Prelude.{All}
use Rattle.std.specs.FinMap as map
use Rattle.f2_model.specs.declared.rows.Row.{Row}
use Rattle.f2_reference_calls.specs.Given.{rows_at}
use Rattle.f2_plain_check.specs.Parts.{HasRoom}
use Rattle.f2_plain_check.proofs.room.fits.Goals as goal
use Rattle.f2_plain_check.proofs.room.fits.Goals.{then-branch+in_ok-has_space, else-branch}

pub returns : goal.returns
returns c =
    let tree = c.args.tree.now in
    let rows : rows_at c.as_slice.result.now ≡ map.values tree = ap rows_at c.as_slice.ensures.value ∙ c.in_ok-rows.ensures in
    let all : IsTrue c.in_ok-have_room.field-0 ↔ All (HasRoom c.args.geometry.now (map.values tree)) (map.values tree) =
    subst (λ (l : List Row). IsTrue c.in_ok-have_room.field-0 ↔ All (HasRoom c.args.geometry.now l) l) rows c.in_ok-have_room.ensures in
    elim c.if-branch.branch [
      | then-branch+in_ok-has_space w ↦ (
        λ t. record { rows = all.0 w.if-branch.true; space = w.in_ok-has_space.ensures.0 (sym w.result-is ∙ t) },
        λ room. w.result-is ∙ w.in_ok-has_space.ensures.1 room.space,
      )
      | else-branch w ↦ (
        λ t. absurd (let no : false ≡ true = sym w.if-branch.false ∙ sym w.result-is ∙ t in cc),
        λ room. w.result-is ∙ all.1 room.rows,
      )
    ]
