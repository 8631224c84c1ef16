-- The marks of a sound image go with its base and with each other, in it and in every run from it.
use Rattle.std.proofs.Common.{◌≡◌, ◌≢◌, inl, ℕ, zero, suc, ◌+◌, ◌<◌, Bool, true, false, cond, List, [], ◌∷◌, length, All, filter, refl, sym, ap, ◌∙◌, subst, arith}
use Rattle.std.specs.Prelude.{Option, Some, None}
use Rattle.std.specs.List.{AllByRecursion, AllZip, range_with_len}
use Rattle.std.specs.FinMap as map
use Rattle.std.proofs.lemmas.List.{take_all}
use Rattle.std.proofs.lemmas.List.Elements.{All-contains, All-from_recursion}
use native.Mathlib.Decide.{ℕ_discrete, dec_lt}
use Rattle.f2_format.specs.Footer.{footer_ino}
use Rattle.f2_format.specs.Inode.{SIZE_LIMIT}
use Rattle.f2_disk.specs.Contents.{IsBlock}
use Rattle.f2_model.specs.Tree.{Rows, ROOT, IsGoodTree}
use Rattle.f2_model.specs.State.{State, Mark, rolled}
use Rattle.f2_model.specs.Step.{Faults}
use Rattle.f2_model.specs.Run.{Happening, Happened}
use Rattle.f2_model.specs.declared.bounds.Limits.{Limits}
use Rattle.f2_model.specs.declared.rows.Row.{Row}
use Rattle.f2_image.specs.Images.{Image, IsSized}
use Rattle.f2_image.specs.Packs.{Checkpoint}
use Rattle.f2_image.specs.Bases.{IsBase}
use Rattle.f2_image.specs.Chains.{chain, block_in, is_marked, IsMark, AreMarks}
use Rattle.f2_image.specs.Reached.{IsMarkedAt}
use Rattle.f2_image.specs.Faults.{IsSound, BringsName}
use Rattle.f2_image.specs.Faults as faults
use Rattle.f2_room_laws.specs.ProperTrees.{IsProperTree}
use Rattle.f2_room_laws.specs.Marking.{MayComeIn}
use Rattle.f2_room_laws.specs.Fitting.{FitsBase, IsFittingState}
use Rattle.f2_room_laws.proofs.Fittings.{initial_fitting, events_keep_states_fitting, fitting_fits}
use Rattle.f2_room_laws.proofs.Runs.{remains_proper}
use Rattle.f2_image_laws.specs.Rolled.{image_limits}
use Rattle.f2_image_laws.specs.Fitting.{SoundMarksFit, SoundRunsStayFit}
use Rattle.f2_image_laws.proofs.Sound.{no_conflict}
use Rattle.f2_image_laws.proofs.BaseRows.{base_number}
use Rattle.f2_image_laws.proofs.GoodBase.{good_base}
use Rattle.f2_image_laws.proofs.MarkRows as mark_rows
use Rattle.f2_image_laws.proofs.RolledTree.{IsRolledTo, not_in_base, may, rolled_tree_proper}
use Rattle.f2_image_laws.proofs.Numbers.{not_less}

-- the marked block of a mark stands at a place of the node log
record HasPlace (image : Image) (ckpt : Checkpoint) (base : Rows) (mark : Mark) : Type 0 where
  place : ℕ
  is : IsMark image ckpt base (chain image ckpt) place mark
  marked : IsMarkedAt image ckpt place (block_in (chain image ckpt) place)

-- each mark has one
module _ (image : Image) (ckpt : Checkpoint) (base : Rows) where
  abbrev Fits : List ℕ → List Mark → Type 0
  Fits places marks = AllZip (IsMark image ckpt base (chain image ckpt)) places marks

  abbrev passes : ℕ → Bool
  passes place = is_marked (block_in (chain image ckpt) place)

  abbrev Stand : ℕ → ℕ → Type 0
  Stand from many = (marks : List Mark) → Fits (filter passes (range_with_len from many)) marks → AllByRecursion (HasPlace image ckpt base) marks

  by_first : (from many : ℕ) → from < length (chain image ckpt) → Stand (from + 1) many → (b : Bool) → passes from ≡ b → (marks : List Mark)
      → Fits (cond b (from ∷ filter passes (range_with_len (from + 1) many)) (filter passes (range_with_len (from + 1) many))) marks → AllByRecursion (HasPlace image ckpt base) marks
  by_first from many small rest false e marks fits = rest marks fits
  by_first from many small rest true e [] fits = absurd fits
  by_first from many small rest true e (mark ∷ marks) fits = (record { place = from; is = fits.0; marked = record { within = small; stands = refl; marked = e } }, rest marks fits.1)

  stand : (from many : ℕ) → from + many ≡ length (chain image ckpt) → Stand from many
  stand from zero all [] fits = tt
  stand from zero all (mark ∷ marks) fits = absurd fits
  stand from (suc many) all marks fits = by_first from many (omega (arith, all)) (stand (from + 1) many (omega (arith, all))) (passes from) refl marks fits

  all_stand : (marks : List Mark) → AreMarks image ckpt base marks → AllByRecursion (HasPlace image ckpt base) marks
  all_stand marks are = stand 0 (length (chain image ckpt)) (omega arith) marks are

module _ (image : Image) (ckpt : Checkpoint) (sound : IsSound image ckpt) (base : Rows) (is_base : IsBase image ckpt base) (blocks : All IsBlock image) (sized : IsSized image ckpt.geom) where
  good : IsGoodTree SIZE_LIMIT base
  good = good_base image ckpt sound base is_base blocks sized

  -- with no mark rolled over it the base is as it is, at each place
  none_rolled : (place : ℕ) → IsRolledTo image ckpt base place base
  none_rolled place = record {
    good = good;
    numbers = base_number image ckpt sound base is_base;
    rows = λ ino row there. inl (record {
      old = row;
      there = there;
      kind = refl;
      parent = refl;
      named = refl;
    });
    directories = λ ino up there directory. (up, there, directory);
  }

  module _ (mark : Mark) (at : HasPlace image ckpt base mark) where
    -- so the mark's row could come into it alone
    into_base : MayComeIn SIZE_LIMIT base mark.row
    into_base = may image ckpt sound base is_base blocks sized at.place base (none_rolled at.place) mark at.is at.marked

    not_root : mark.ino ≢ ROOT
    not_root e = into_base.not_root (at.is.row_ino ∙ e)

    fits_base : FitsBase (image_limits ckpt.geom) base mark
    fits_base = record {
      not_root = not_root;
      file = λ old there. into_base.file old (ap (map.get base) at.is.row_ino ∙ there);
      up = into_base.up;
      name = into_base.name;
      free = λ ino other there apart parents names. into_base.free ino other there apart parents names ∙ at.is.row_ino;
      pages = into_base.pages;
    }

    keeps : (old : Row) → map.get base mark.ino ≡ Some old → (mark.row.parent ≡ old.parent) × (mark.row.name ≡ old.name)
    keeps = mark_rows.keeps image ckpt sound base is_base at.place mark at.is at.marked

    brings : map.get base mark.ino ≡ None → BringsName image ckpt at.place mark.ino mark.row.parent mark.row.name
    brings = mark_rows.brings image ckpt sound base is_base at.place mark at.is at.marked

  -- a name that one mark brings is brought by no earlier mark of another file
  not_earlier : (one other : Mark) (at : HasPlace image ckpt base one) (also : HasPlace image ckpt base other) → map.get base one.ino ≡ None → map.get base other.ino ≡ None
      → one.row.parent ≡ other.row.parent → one.row.name ≡ other.row.name → at.place < also.place → one.ino ≢ other.ino → ⊥
  not_earlier one other at also none no_other parents names first differ =
      let before : BringsName image ckpt at.place one.ino other.row.parent other.row.name =
      subst (λ n. BringsName image ckpt at.place one.ino other.row.parent n) names (subst (λ d. BringsName image ckpt at.place one.ino d one.row.name) parents (brings one at none)) in
      no_conflict image ckpt sound other.ino (faults.in_log also.place at.place one.ino other.row.parent other.row.name (brings other also no_other) before first differ)

  -- two marks with one name are of one file
  one_file : (one other : Mark) → HasPlace image ckpt base one → HasPlace image ckpt base other → one.row.parent ≡ other.row.parent → one.row.name ≡ other.row.name → one.ino ≡ other.ino
  one_file one other at also parents names = by_rows (map.get base one.ino) (map.get base other.ino) refl refl
    where
      by_order : map.get base one.ino ≡ None → map.get base other.ino ≡ None → Dec (one.ino ≡ other.ino) → Dec (at.place < also.place) → Dec (also.place < at.place) → one.ino ≡ other.ino
      by_order p q (yes same) first second = same
      by_order p q (no differ) (yes first) second = absurd (not_earlier one other at also p q parents names first differ)
      by_order p q (no differ) (no late) (yes second) = absurd (not_earlier other one also at q p (sym parents) (sym names) second (λ e. differ (sym e)))
      by_order p q (no differ) (no late) (no early) =
          let a = not_less at.place also.place late in
          let b = not_less also.place at.place early in
          let same : at.place ≡ also.place = omega (arith, a, b) in
          at.is.ino ∙ ap (λ place. footer_ino (block_in (chain image ckpt) place)) same ∙ sym also.is.ino

      by_rows : (a b : Option Row) → map.get base one.ino ≡ a → map.get base other.ino ≡ b → one.ino ≡ other.ino
      by_rows (Some a) (Some b) p q =
          let k = keeps one at a p in
          let m = keeps other also b q in
          good.apart one.ino other.ino a b p q (not_root one at) (not_root other also) (sym k.0 ∙ parents ∙ m.0) (sym k.1 ∙ names ∙ m.1)
      by_rows (Some a) None p q =
          let k = keeps one at a p in
          absurd (not_in_base image ckpt sound base is_base blocks sized also.place other.ino other.row.parent other.row.name one.ino a (brings other also q) p (not_root one at) (sym k.0 ∙ parents) (sym k.1 ∙ names))
      by_rows None (Some b) p q =
          let m = keeps other also b q in
          absurd (not_in_base image ckpt sound base is_base blocks sized at.place one.ino one.row.parent one.row.name other.ino b (brings one at p) q (not_root other also) (sym m.0 ∙ sym parents) (sym m.1 ∙ sym names))
      by_rows None None p q = by_order p q (ℕ_discrete one.ino other.ino) (dec_lt at.place also.place) (dec_lt also.place at.place)

  each_fits : (marks : List Mark) → AllByRecursion (HasPlace image ckpt base) marks → AllByRecursion (FitsBase (image_limits ckpt.geom) base) marks
  each_fits [] all = tt
  each_fits (mark ∷ marks) all = (fits_base mark all.0, each_fits marks all.1)

pub sound_marks_fit : SoundMarksFit
sound_marks_fit image ckpt base marks format version blocks means = record {
  base = All-from_recursion (FitsBase (image_limits ckpt.geom) base) marks (each_fits image ckpt means.sound base means.is_base blocks means.checkpoint.sized marks places);
  names = λ one other found also parents names. one_file image ckpt means.sound base means.is_base blocks means.checkpoint.sized one other
      (All-contains (HasPlace image ckpt base) marks one all found) (All-contains (HasPlace image ckpt base) marks other all also) parents names;
  trees = λ place from to. subst (λ (ms : List Mark). IsProperTree (image_limits ckpt.geom) (rolled base ms)) (sym (take_all place marks from)) (rolled_tree_proper image ckpt base marks blocks means);
}
  where
    places : AllByRecursion (HasPlace image ckpt base) marks
    places = all_stand image ckpt base marks means.are_marks

    all : All (HasPlace image ckpt base) marks
    all = All-from_recursion (HasPlace image ckpt base) marks places

-- what happened leaves a fitting state so
happened_fitting : (limits : Limits) (faults : Faults) (events : List Happening) (from to : State) → IsFittingState limits from → Happened limits faults from events to → IsFittingState limits to
happened_fitting limits faults [] from to holds h = subst (IsFittingState limits) h.1 holds
happened_fitting limits faults (one ∷ rest) from to holds h = happened_fitting limits _ rest one.turn.after to (events_keep_states_fitting limits one.faults from one.event one.turn h.2 holds) h.3

pub sound_runs_stay_fit : SoundRunsStayFit
sound_runs_stay_fit image ckpt base marks format version faults entries choices state blocks means run = record {
  marks = fitting_fits (image_limits ckpt.geom) state fitting;
  left = λ meaning remains. remains_proper (image_limits ckpt.geom) state meaning fitting.proper remains;
}
  where
    fitting : IsFittingState (image_limits ckpt.geom) state
    fitting =
        happened_fitting (image_limits ckpt.geom) faults run.events _ state
        (initial_fitting (image_limits ckpt.geom) (record { base = base; marks = marks; format = format; version = version }) (sound_marks_fit image ckpt base marks format version blocks means)) run.happened
