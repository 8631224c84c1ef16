use Rattle.std.proofs.Common.{◌≡◌, sym, ap, subst, ◌∙◌, refl}
use Rattle.std.specs.Prelude.{Bool, true, false, cond, not, Option, Some, None, if◌then◌else◌}
use Rattle.f2_model.specs.State.{base_up_to, pending_with}
use Rattle.f2_model.specs.Step.{found, is_shut}
use Rattle.f2_model.specs.declared.events.Event.TheVariants.{Mount}
use Rattle.f2_reference_state.specs.Seen.{after_turn}
use Rattle.f2_reference.specs.Choosing.{place_left, ComesTo}
use Rattle.f2_reference.specs.Sound.{IsFittingMark, IsSound}
use Rattle.f2_reference.proofs.MountModes.{not_shut}
use Rattle.f2_reference.proofs.MountComes.{comes_mounted, comes_pending, comes_marks}
use Rattle.f2_reference.proofs.MountRolls.{all_taken}
use Rattle.f2_reference.proofs.MountSound.{after_ok, either_way, found_sound}
use Rattle.f2_reference.proofs.mounts.mount.Goals as goal
use Rattle.f2_reference.proofs.mounts.mount.Goals.{in_default-via-in-Some+else-choices, in_default-via-in_default}

-- nothing is pending either way
none_either : {X : Type 0} (b : Bool) (o : Option X) → o ≡ None → cond b o None ≡ None
none_either true o none = none
none_either false o none = refl

pub returns-then-ne-clause-ok : goal.returns-then-ne-clause-ok
returns-then-ne-clause-ok c =
    comes_mounted c.args.choices c.args.plain.now (not_shut c.mode.result _ c.ne.result true c.mode.ensures c.ne.ensures c.if-ne.true)

pub returns-in_ok-finds_pending-in-Some-clause-ok : goal.returns-in_ok-finds_pending-in-Some-clause-ok
returns-in_ok-finds_pending-in-Some-clause-ok c =
    let old = c.args.plain.now in
    let shut : not (is_shut old.state.mode) ≡ false = not_shut c.mode.result _ c.ne.result false c.mode.ensures c.ne.ensures c.if-ne.false in
    let there : old.state.pending ≡ Some c.in-Some.tree.now = sym c.in-Some.ensures in
    comes_pending c.args.choices old c.finds_pending.new.self c.in-Some.tree.now shut c.if-choices.true there
    (c.in_ok-finds_pending-in-Some.ensures.ok ∙ ap (λ tree. record (after_turn old (found old.state (pending_with old.state tree) 1)) { blocks = c.args.choices.blocks }) c.in_ok-base-in-Some.ensures)

pub returns-in_default-clause-ok : goal.returns-in_default-clause-ok
returns-in_default-clause-ok c =
    let old = c.args.plain.now in
    let choices = c.args.choices in
    let shut : not (is_shut old.state.mode) ≡ false = not_shut c.mode.result _ c.ne.result false c.mode.ensures c.ne.ensures c.if-ne.false in
    let none : (if choices.pending then old.state.pending else None) ≡ None =
    elim c.in_default.branch [
      | in_default-via-in-Some+else-choices w ↦ ap (λ told. if told then old.state.pending else None) w.if-choices.false
      | in_default-via-in_default w ↦ none_either choices.pending old.state.pending (sym w.in_default.ensures)
    ] in
    after_ok c.find_marks.result _ _ _ c.find_marks.ensures.told c.find_marks.ensures.ok (λ answer told after.
    subst (ComesTo choices old c.find_marks.new.plain Mount) (sym told) (comes_marks choices old c.find_marks.new.plain c.requires.sound shut none after))

pub returns-in_default-clause-sound : goal.returns-in_default-clause-sound
returns-in_default-clause-sound c =
    let old = c.args.plain.now in
    let choices = c.args.choices in
    either_way c.find_marks.result _ _ _ c.find_marks.ensures.ok c.find_marks.ensures.err
    (λ after. subst IsSound (sym after) (found_sound old (base_up_to old.state (place_left choices.marks old.state)) 0 choices.blocks c.requires.sound c.requires.sound.base (all_taken IsFittingMark (place_left choices.marks old.state) old.state.marks c.requires.sound.marks)))
    (λ same. subst IsSound (sym same) c.requires.sound)
