-- Positions of the node log that are drawn.
use Rattle.std.proofs.Common.{◌≡◌, ℕ, true, true≢false, cond, List, [], ◌∷◌, ◌++◌, length, sym, ap, ◌∙◌, subst}
use Rattle.std.specs.List.{AllZip}
use Rattle.std.proofs.lemmas.List.{length-map, append-nil}
use Rattle.f2_format.specs.Footer.{footer_ino}
use Rattle.f2_image.specs.Chains.{Logged, is_marked, marked_places}
use Rattle.f2_stored.specs.Layout.{Position, chained}
use Rattle.f2_stored.specs.Numbers.{MayCount}
use Rattle.f2_stored.specs.Marks.{HoldsMark}
use Rattle.f2_stored.specs.Changes.{with_drawn}
use Rattle.f2_change_laws.specs.Drawing.{NodesMayBeDrawn, MarksMayBeDrawn}
use Rattle.f2_change_laws.proofs.Each.{zip_push}
use Rattle.f2_change_laws.proofs.Counts.{marked_more}
use Rattle.f2_change_laws.proofs.DrawnLogs.{chain_more, marks_still, drawn_keeps, drawn_packs}

pub nodes_may_be_drawn : NodesMayBeDrawn
nodes_may_be_drawn lists layout state block packs log may unmarked = (
  drawn_packs lists layout state block layout.owners log may none_counts (λ at owner is. is) log.owners.few state.marks packs,
  drawn_keeps lists layout state block layout.owners log may none_counts (λ at owner is. is) log.owners.few state.marks
      (subst (λ (places : List ℕ). AllZip (HoldsMark lists (with_drawn layout block layout.owners) state.base) places state.marks) (sym places)
      (marks_still lists layout state block layout.owners log may none_counts (λ at owner is. is) log.owners.few)) log.fitting,
)
  where
    one : Logged
    one = record { at = layout.next; block = block }

    none_counts : is_marked block ≡ true → MayCount layout (footer_ino block)
    none_counts is = absurd (true≢false (sym is ∙ unmarked))

    places : marked_places (chained (with_drawn layout block layout.owners)) ≡ marked_places (chained layout)
    places =
        ap marked_places (chain_more lists layout state block layout.owners log may none_counts (λ at owner is. is) log.owners.few) ∙ marked_more (chained layout) one
        ∙ ap (λ b. marked_places (chained layout) ++ cond b (length (chained layout) ∷ []) []) unmarked ∙ append-nil (marked_places (chained layout))

pub marks_may_be_drawn : MarksMayBeDrawn
marks_may_be_drawn lists layout state block owners mark packs log may marked may_count wider few holds fitting = (
  drawn_packs lists layout state block owners log may (λ is. may_count) wider few (state.marks ++ mark ∷ []) packs,
  drawn_keeps lists layout state block owners log may (λ is. may_count) wider few (state.marks ++ mark ∷ [])
      (subst (λ (places : List ℕ). AllZip (HoldsMark lists (with_drawn layout block owners) state.base) places (state.marks ++ mark ∷ [])) (sym places)
      (zip_push (HoldsMark lists (with_drawn layout block owners) state.base) (marked_places (chained layout)) state.marks (length (chained layout)) mark
      (marks_still lists layout state block owners log may (λ is. may_count) wider few)
      (subst (λ at. HoldsMark lists (with_drawn layout block owners) state.base at mark) (sym (length-map layout.log (λ (p : Position). p.logged))) holds))) fitting,
)
  where
    one : Logged
    one = record { at = layout.next; block = block }

    places : marked_places (chained (with_drawn layout block owners)) ≡ marked_places (chained layout) ++ length (chained layout) ∷ []
    places =
        ap marked_places (chain_more lists layout state block owners log may (λ is. may_count) wider few) ∙ marked_more (chained layout) one
        ∙ ap (λ b. marked_places (chained layout) ++ cond b (length (chained layout) ∷ []) []) marked
