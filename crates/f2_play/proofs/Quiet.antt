-- Where no `fail` line and no `stop` line stands no call of the disk failed in any event.
use Rattle.std.proofs.Common.{◌≡◌, ◌+◌, ◌≤◌, ℕ, List, [], ◌∷◌, refl, sym, ap, subst, arith}
use Rattle.std.specs.List.{AllByRecursion}
use Rattle.f2_format.specs.Geometry.{ImageGeometry}
use Rattle.f2_model.specs.declared.bounds.Limits.{Limits}
use Rattle.f2_model.specs.State.{State}
use Rattle.f2_model.specs.Step.{Faults, HasRisen}
use Rattle.f2_model.specs.Run.{Happening, Happened}
use Rattle.f2_script.specs.declared.script.Line.{Line}
use Rattle.f2_script.specs.declared.script.Line.TheVariants as line
use Rattle.f2_play.specs.Parts.{Part}
use Rattle.f2_play.specs.Lines.{PlaysLines, granted}
use Rattle.f2_play.specs.Scripts.{PlaysImage}
use Rattle.f2_play.specs.Faults.{Planned, nothing_planned, planned_at, IsCounting, AreCounted}

-- no call of the disk failed in an event, so that it can tell no fault
abbrev pub IsQuiet : Happening → Type 0
IsQuiet one = ¬ (HasRisen one.faults)

-- in none of the events of a part
abbrev pub IsQuietPart : Part → Type 0
IsQuietPart part = AllByRecursion IsQuiet part.events

-- a line that plans no failure
abbrev pub PlansNothing : Line → Type 0
PlansNothing (line.Fail kind n) = ⊥
PlansNothing (line.Stop n) = ⊥
PlansNothing _ = Unit {0}

-- the count never falls
pub before-after : (limits : Limits) (faults : Faults) (from : State) (events : List Happening) (to : State) → Happened limits faults from events to → faults.before ≤ faults.after
before-after limits faults from [] to happened = happened.0
before-after limits faults from (one ∷ events) to happened =
    let rest = before-after limits (record { before = one.faults.after; after = faults.after }) one.turn.after events to happened.3 in
    omega (arith, happened.0, happened.1, rest)

-- events on a disk whose count stands still
quiet-events : (limits : Limits) (faults : Faults) (from : State) (events : List Happening) (to : State) → IsCounting faults.after → faults.after ≤ faults.before
    → Happened limits faults from events to → AllByRecursion IsQuiet events
quiet-events limits faults from [] to counting still happened = tt
quiet-events limits faults from (one ∷ events) to counting still happened =
    let rest = happened.3 in
    let later = before-after limits (record { before = one.faults.after; after = faults.after }) one.turn.after events to rest in (
      (λ risen. omega (arith, risen, counting, still, happened.0, happened.1, later)),
      quiet-events limits (record { before = one.faults.after; after = faults.after }) one.turn.after events to counting (omega (arith, still, happened.0, happened.1)) rest,
    )

-- such a line leaves nothing planned where nothing was
planned-still : (count : ℕ) (one : Line) → PlansNothing one → planned_at (nothing_planned count) count one ≡ nothing_planned count
planned-still count line.Skipped plans = refl
planned-still count (line.Mkfs blocks nat) plans = refl
planned-still count (line.Call seat request) plans = refl
planned-still count (line.Begin seat request) plans = refl
planned-still count (line.Go seat) plans = refl
planned-still count (line.Slot seat) plans = refl
planned-still count (line.End seat) plans = refl
planned-still count line.Tick plans = refl
planned-still count (line.Crash pick) plans = refl
planned-still count line.Mount plans = refl
planned-still count line.Unmount plans = refl
planned-still count line.Tree plans = refl
planned-still count (line.Gen start calls) plans = refl
planned-still count (line.Fail kind n) plans = absurd plans
planned-still count (line.Stop n) plans = absurd plans

-- lines that plan no failure
pub quiet-lines : (limits : Limits) (count : ℕ) (from to : State) (lines : List Line) (parts : List Part) → PlaysLines limits from lines parts to
    → AllByRecursion PlansNothing lines → AreCounted (nothing_planned count) count lines parts → AllByRecursion IsQuietPart parts
quiet-lines limits count from to [] [] played plans counted = tt
quiet-lines limits count from to [] (part ∷ parts) played plans counted = absurd played
quiet-lines limits count from to (one ∷ lines) [] played plans counted = absurd played
quiet-lines limits count from to (one ∷ lines) (part ∷ parts) played plans counted =
    let still = planned-still count one plans.0 in
    let most : part.faults.after ≤ count + 0 = subst (λ (p : Planned). part.faults.after ≤ p.base + p.fails) still (counted.2 (ap (λ (p : Planned). p.is_stopped) still)) in
    let least = before-after limits part.faults from part.events part.after played.0.happened in
    let same : part.faults.after ≡ count = omega (arith, most, least, counted.0) in (
      quiet-events limits part.faults from part.events part.after counted.1 (omega (arith, same, counted.0)) played.0.happened,
      quiet-lines limits count part.after to lines parts played.1 plans.1
          (subst (λ n. AreCounted (nothing_planned count) n lines parts) same (subst (λ p. AreCounted p part.faults.after lines parts) still counted.3)),
    )

-- a whole script, from its `mkfs` line on
pub quiet-image : (size : ℕ) (geom : ImageGeometry) (lines : List Line) (parts : List Part) → PlaysImage size geom lines parts → AllByRecursion PlansNothing lines → AllByRecursion IsQuietPart parts
quiet-image size geom lines parts image plans =
    let limits = granted size geom in
    let counted : AreCounted (nothing_planned image.count) image.count (line.Mkfs geom.blocks geom.nat ∷ lines) (image.first ∷ image.rest) =
    subst (λ ps. AreCounted (nothing_planned image.count) image.count (line.Mkfs geom.blocks geom.nat ∷ lines) ps) image.whole image.counted in
    let least = before-after limits image.first.faults _ image.first.events image.first.after image.made.happened in
    let most = counted.2 refl in
    let same : image.first.faults.after ≡ image.count = omega (arith, most, least, counted.0) in
    subst (AllByRecursion IsQuietPart) (sym image.whole) (
      quiet-events limits image.first.faults _ image.first.events image.first.after counted.1 (omega (arith, same, counted.0)) image.made.happened,
      quiet-lines limits image.count image.first.after image.after lines image.rest image.played plans
          (subst (λ n. AreCounted (nothing_planned image.count) n lines image.rest) same counted.3),
    )
