-- What the events of a core come to.
use Rattle.std.proofs.Common.{◌≡◌, inl, ℕ, ◌+◌, ◌<◌, ◌≤◌, List, [], ◌∷◌, ◌++◌, length, refl, sym, ap, ◌∙◌, subst, arith, add-zero, append-nil}
use Rattle.std.specs.Prelude.{Option, Some, None, IfSome, take, if◌then◌else◌}
use Rattle.std.specs.FinMap as map
use Rattle.std.specs.FinSet as set
use Rattle.f2_format.specs.Geometry.{ImageGeometry}
use Rattle.f2_disk.specs.Contents.{Contents, IsImage}
use Rattle.f2_model.specs.Tree.{ROOT}
use Rattle.f2_model.specs.State.{State, Mark, initial, MayRemain}
use Rattle.f2_model.specs.Step.{Step, calm, unchanged}
use Rattle.f2_model.specs.declared.events.Event.{Event}
use Rattle.f2_model.specs.declared.events.Answer.{Answer}
use Rattle.f2_model.specs.Run.{Happening, Happened, IsRun, entries_of, choices_of}
use Rattle.f2_model.specs.History.{History}
use Rattle.f2_model.specs.declared.rows.Row.{Row}
use Rattle.f2_image.specs.Meanings.{IsLeft, IsSafe}
use Rattle.f2_model.specs.declared.modes.Format.TheVariants.{One, Two}
use Rattle.f2_laid.specs.declared.stored.Stored.{Stored}
use Rattle.f2_flat.specs.Flat.{IsFlat, limits_of}
use Rattle.f2_core.specs.Seen.{Seen, IsHeld, IsIn, Knows, mode_of, new_image}
use Rattle.f2_core.specs.Events.{StandsFor, IsQuiet, IsShort, MOST_LEFT, GoesTo, ComesTo}
use Rattle.f2_core.specs.declared.volumes.Volume.{Volume}
use Rattle.f2_core.proofs.Steps.{unmarked}
use Rattle.f2_core.proofs.Held.{means, left-alone, image-alone, held-storable}
use Rattle.f2_core.proofs.Runs.{calmly, quiet-calm, happens-last, run-append}

-- what contracts see of a core
abbrev pub seen : {D : Type 0} → D → ImageGeometry → Option Volume → History → Seen D
seen disk geom volume history = record { disk = disk; geometry = geom; volume = volume; history = history }

-- a state that a core is in after so many entries, whatever run led there
pub record IsAt (geom : ImageGeometry) (told : Option Contents) (volume : Option Volume) (entries : ℕ) (state : State) : Type 0 where
  pub mode : state.mode ≡ mode_of volume
  pub flights : state.flights ≡ map.empty
  pub marks : state.marks ≡ []
  pub acknowledged : state.acknowledged ≡ 0
  pub pending : state.pending ≡ None
  pub format : state.format ≡ Two
  pub logged : state.logged ≡ set.empty
  pub count : state.entries ≡ entries
  pub flat : IsFlat geom state.base
  pub older : (ino : ℕ) (row : Row) → map.get state.base ino ≡ Some row → IfSome volume (λ (opened : Volume). ino < map.len opened.files + ROOT)
  pub stored : Stored
  pub newest : stored.version ≡ state.version
  pub version : stored.version ≤ entries + 1
  pub known : IfSome volume (Knows state stored)
  pub held : IfSome told (λ lists. IsHeld geom lists state.base stored)

pub at_of : (geom : ImageGeometry) (told : Option Contents) (volume : Option Volume) (history : History) (state : State) → IsIn geom told volume history state → IsAt geom told volume (length history.entries) state
at_of geom told volume history state is = record {
  mode = is.mode;
  flights = is.flights;
  marks = is.marks;
  acknowledged = is.acknowledged;
  pending = is.pending;
  format = is.format;
  logged = is.logged;
  count = is.entries;
  flat = is.flat;
  older = is.older;
  stored = is.stored;
  newest = is.newest;
  version = is.version;
  known = is.known;
  held = is.held;
}

pub in_of : (geom : ImageGeometry) (told : Option Contents) (volume : Option Volume) (history : History) (state : State) → IsRun (limits_of geom) calm (initial new_image) history.entries history.choices state
    → IsAt geom told volume (length history.entries) state → IsIn geom told volume history state
in_of geom told volume history state run is = record {
  run = run;
  mode = is.mode;
  flights = is.flights;
  marks = is.marks;
  acknowledged = is.acknowledged;
  pending = is.pending;
  format = is.format;
  logged = is.logged;
  entries = is.count;
  flat = is.flat;
  older = is.older;
  stored = is.stored;
  newest = is.newest;
  version = is.version;
  known = is.known;
  held = is.held;
}

-- what a crash leaves of the disk of such a core stands for the base
pub safe : (geom : ImageGeometry) (told : Option Contents) (volume : Option Volume) (entries : ℕ) (state : State) → IsAt geom told volume entries state → IfSome told (λ lists. IsSafe lists state)
safe geom told volume entries state is = by_told told is.held
  where
    remains : MayRemain state (unmarked state [])
    remains = inl (0, (let zero = is.acknowledged in omega (arith, zero)), omega arith, ap (λ (marks : List Mark). unmarked state (take 0 marks)) (sym is.marks))

    by_told : (o : Option Contents) → IfSome o (λ lists. IsHeld geom lists state.base is.stored) → IfSome o (λ lists. IsSafe lists state)
    by_told None held = tt
    by_told (Some lists) held = (
      (held.image, subst (λ l. IsImage l held.image) (sym held.one) (image-alone held.image)),
      (λ image one.
          let same : image ≡ held.image = left-alone held.image image (subst (λ l. IsImage l image) held.one one) in
          let can = held-storable geom lists state.base is.stored held is.flat in
          let both = means held.image held.laid.0 state.base is.stored can held.laid.1 in
          subst (IsLeft state) (sym same) (record { ckpt = held.laid.0; meaning = unmarked state []; remains = remains; means = both.0; version = held.laid.1.version ∙ is.newest; format = ap (λ b. if b then Two else One) held.laid.1.newer ∙ sym is.format; clean = both.1 })),
    )

module _ {D : Type 0} (disk after_disk : D) (geom : ImageGeometry) (volume after_volume : Option Volume) (before after : History) (was told : Option Contents) (from : State) (is : IsIn geom was volume before from) where
  -- a core goes on by events to a state that it is in then
  pub goes : (events : List Happening) (to : State) → Happened (limits_of geom) calm from events to → after.entries ≡ before.entries ++ entries_of events → after.choices ≡ before.choices ++ choices_of events
      → IsAt geom told after_volume (length after.entries) to → GoesTo (seen disk geom volume before) (seen after_disk geom after_volume after) told events to
  goes events to happened entries choices at = record {
    entries = entries;
    choices = choices;
    state = in_of geom told after_volume after to (
        subst (λ es. IsRun (limits_of geom) calm (initial new_image) es after.choices to) (sym entries)
        (subst (λ cs. IsRun (limits_of geom) calm (initial new_image) (before.entries ++ entries_of events) cs to) (sym choices)
        (run-append (limits_of geom) (initial new_image) from to before.entries before.choices events is.run happened))) at;
    safe = safe geom told after_volume (length after.entries) to at;
  }

  pub comes : (event : Event) (answer : Answer) (events : List Happening) (to : State) → Happened (limits_of geom) calm from events to → StandsFor event answer events → length (entries_of events) ≤ MOST_LEFT
      → after.entries ≡ before.entries ++ entries_of events → after.choices ≡ before.choices ++ choices_of events → IsAt geom told after_volume (length after.entries) to
      → ComesTo (seen disk geom volume before) (seen after_disk geom after_volume after) told from event answer
  comes event answer events to happened stands few entries choices at = record {
    events = events;
    to = to;
    leads = record { happened = happened; stands = stands; few = few };
    goes = goes events to happened entries choices at;
  }

-- one event that is over with its answer
abbrev pub once : Event → Answer → State → Happening
once event answer state = calmly event (unchanged state answer)

pub short : (event : Event) (answer : Answer) (one : Happening) → one.event ≡ event → one.turn.answer ≡ answer → IsQuiet one → IsShort event answer (one ∷ [])
short event answer one begun answered quiet = record { one = one; whole = refl; begun = begun; answered = answered; quiet = quiet }

-- an event that changes nothing
module _ {D : Type 0} (disk after_disk : D) (geom : ImageGeometry) (volume : Option Volume) (before after : History) (was told : Option Contents) (from : State) (is : IsIn geom was volume before from) where
  pub stays : (event : Event) (answer : Answer) → Step (limits_of geom) calm from event (unchanged from answer) → (IsShort event answer (once event answer from ∷ []) → StandsFor event answer (once event answer from ∷ []))
      → after.entries ≡ before.entries → after.choices ≡ before.choices → told ≡ was
      → ComesTo (seen disk geom volume before) (seen after_disk geom volume after) told from event answer
  stays event answer step stands entries choices same =
      comes disk after_disk geom volume volume before after was told from is event answer (once event answer from ∷ []) from (subst (λ s. Happened (limits_of geom) calm from (once event answer from ∷ []) s) (λ i. record from { entries = add-zero from.entries i }) (happens-last (limits_of geom) from event (unchanged from answer) step))
      (stands (short event answer (once event answer from) refl refl quiet-calm)) (omega arith) (entries ∙ sym (append-nil before.entries)) (choices ∙ sym (append-nil before.choices))
      (subst (λ n. IsAt geom told volume n from) (sym (ap length entries)) (subst (λ t. IsAt geom t volume (length before.entries) from) (sym same) (at_of geom was volume before from is)))
