use Rattle.std.proofs.Common.{◌≡◌, true, false, sym, ◌∙◌}
use Rattle.f2_plain_check.proofs.rows.has_place.Goals as goal
use Rattle.f2_plain_check.proofs.rows.has_place.Goals.{then-has_parent, else-has_parent}

pub returns-then-is_named : goal.returns-then-is_named
returns-then-is_named c =
    elim c.if-has_parent.branch [
      | then-has_parent w ↦ (
        λ t. (c.has_parent.ensures.0 w.if-has_parent.true, w.is_named.ensures.0 (sym w.value-is ∙ c.if-is_named.true), c.is_reached.ensures.0 t),
        λ place. c.is_reached.ensures.1 place.2,
      )
      | else-has_parent w ↦ absurd (let no : false ≡ true = sym w.if-has_parent.false ∙ sym w.value-is ∙ c.if-is_named.true in cc)
    ]
