use Rattle.std.proofs.Common.{◌≡◌, All, take, map as map_list, sym, ap, subst, ◌∙◌}
use Rattle.std.proofs.lemmas.List.{take-map}
use Rattle.f2_model.specs.State.{rolled}
use Rattle.f2_reference.specs.Sound.{IsFittingMark}
use Rattle.f2_reference_state.specs.Parts.{mark_of}
use Rattle.f2_reference.proofs.MountRolls.{all_taken}
use Rattle.f2_reference.proofs.mounts.find_marks.Goals as goal

pub rolled-requires-clause-marks : goal.rolled-requires-clause-marks
rolled-requires-clause-marks c =
    let count = c.place_left-count.result in
    let first : take count c.args.plain.now.state.marks ≡ map_list mark_of (take count c.marks.result.now) =
    ap (take count) (sym c.marks.ensures) ∙ take-map mark_of count c.marks.result.now in
    subst (All IsFittingMark) first (all_taken IsFittingMark count c.args.plain.now.state.marks c.requires.sound.marks)

pub finds_marks-requires-clause-rolled : goal.finds_marks-requires-clause-rolled
finds_marks-requires-clause-rolled c =
    let count = c.place_left-count.result in
    c.in_ok-live.ensures
    ∙ ap (λ base. rolled base (map_list mark_of (take count c.marks.result.now))) c.base.ensures
    ∙ ap (rolled c.args.plain.now.state.base) (sym (take-map mark_of count c.marks.result.now) ∙ ap (take count) c.marks.ensures)
