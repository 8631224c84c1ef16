-- An event of an fsync that makes one flush, as a step of the machine.
use Rattle.std.proofs.Common.{◌≡◌, inl, inr, ℕ, ◌+◌, ◌<◌, ◌≤◌, true, false, List, [], ◌∷◌, ◌++◌, length, refl, ap, sym, subst, ◌∙◌, arith}
use Rattle.std.specs.Prelude.{Option, Some, None, IfSome, option_map}
use Rattle.std.specs.FinMap as map
use Rattle.std.proofs.lemmas.List.{length-append, append-nil}
use Rattle.f2_disk.specs.Contents.{Contents, flushed}
use Rattle.f2_disk.specs.Meter.{Meter, HasFailed, IsWithin}
use Rattle.f2_event_laws.proofs.Rest.{entries_for_nothing}
use Rattle.f2_event_laws.proofs.WholeAcks.{acknowledgements_whole}
use Rattle.f2_event_laws.proofs.WholePages.{flushed_pages_whole}
use Rattle.f2_event_laws.specs.WholeAcks.{settled_to}
use Rattle.f2_files.specs.Known.{Known, IsKnownOf}
use Rattle.f2_files.specs.Shape.{address_in}
use Rattle.f2_format.specs.Geometry.{ImageGeometry}
use Rattle.f2_image_laws.specs.Rolled.{image_limits}
use Rattle.f2_laws.proofs.Clean.{none_least}
use Rattle.f2_laws.specs.Flights.{Flights}
use Rattle.f2_model.specs.History.{History}
use Rattle.f2_model.specs.State.{State, Part, InPages, Marked, Progress, InFsync, in_nodes}
use Rattle.f2_model.specs.Step.{Faults, Turn, Step, StepPart, HasRisen, is_shut, least_of, gap_below, with_progress, acknowledges, turn_with, unchanged, closed_by_fault, step_failed}
use Rattle.f2_model.specs.declared.bounds.Limits.{Limits}
use Rattle.f2_model.specs.declared.events.Answer.{Answer}
use Rattle.f2_model.specs.declared.events.Answer.TheVariants.{Stepped}
use Rattle.f2_model.specs.declared.events.Event.{Event}
use Rattle.f2_model.specs.declared.events.Event.TheVariants.{Go}
use Rattle.f2_model.specs.declared.histories.CallKind.TheVariants as kind
use Rattle.f2_model.specs.declared.histories.Entry.{Entry}
use Rattle.f2_model.specs.declared.histories.Entry.TheVariants as entry
use Rattle.f2_model.specs.declared.modes.Mode.TheVariants.{Shut}
use Rattle.f2_model.specs.declared.replies.Reply.TheVariants as reply
use Rattle.f2_model.specs.declared.replies.Step.TheVariants as step
use Rattle.f2_room_laws.proofs.Roomy.{events_keep_states_roomy}
use Rattle.f2_room_laws.specs.RoomForWrites.{IsRoomyState}
use Rattle.f2_state.specs.Flushing.{HasComeTo, HasWrittenPages, HasWrittenMark, gap_among}
use Rattle.f2_state.specs.Following.{AdvancesFrom, Follows, faults_between}
use Rattle.f2_state.specs.Seen.{Seen}
use Rattle.f2_state.specs.Standing.{StandsAt, StandsIn, StandsSomewhere, IsVolume, is_between}
use Rattle.f2_state.proofs.Alone.{between_by_fsync}
use Rattle.f2_state.proofs.Flushed.{at_flushed, at_closed, contents_stay, read_flushed}
use Rattle.f2_state.proofs.Unchanged.{in_somewhere, somewhere_in}
use Rattle.f2_state.proofs.Tables.{on_none, on_some, on_false}

module _ {D : Type 0} (lists : Contents) (old : Seen D) (from : State) (at : StandsAt lists old from) (seat ino : ℕ) (progress : Progress) where
  flies : (part : Part) → HasComeTo old seat ino part progress → map.get from.flights seat ≡ Some (InFsync ino progress)
  flies part come = ap (λ (f : Flights). map.get f seat) (sym at.known.flights) ∙ come.in_flight

  not_shut : (part : Part) → HasComeTo old seat ino part progress → is_shut from.mode ≡ false
  not_shut part come = ap is_shut (sym at.mode ∙ come.up)

  quiet : (part : Part) → HasComeTo old seat ino part progress → is_between from ≡ true
  quiet part come = between_by_fsync (image_limits at.layout.base.ckpt.geom) from at.roomy.proper seat ino progress (flies part come) (sym at.mode ∙ come.up)

  -- a row of the table of an fsync's events is a step
  step_by_part : (limits : Limits) (faults : Faults) (part : Part) (turn : Turn) → HasComeTo old seat ino part progress → StepPart faults from seat ino progress part turn → Step limits faults from (Go seat) turn
  step_by_part limits faults part turn come row =
      on_some (map.get from.flights seat) _ _ (InFsync ino progress) (flies part come)
      (on_false (is_shut from.mode) _ _ (not_shut part come)
      (on_none progress.slot _ _ come.none_open (subst (λ p. StepPart faults from seat ino progress p turn) (sym come.part_is) row)))

-- files after a call went on, or ended
abbrev pub with_flights : Known → Flights → Known
with_flights known flights = record known { flights = flights }

module _ {D : Type 0} (contents : D → Option Contents) (meter : D → Meter) (old : Seen D) (disk : D) (history : History) (seat ino : ℕ) where
  -- a volume that made its flush
  abbrev pub gone_on : Flights → Seen D
  gone_on flights = record old { disk = disk; files = with_flights old.files flights; history = history }

  -- one whose flush failed
  abbrev pub shut : Seen D
  shut = record old { disk = disk; mode = Shut; files = with_flights old.files (map.remove old.files.flights seat); history = history }

  abbrev counts : Faults
  counts = faults_between (meter old.disk) (meter disk)

  one_more : (n : ℕ) (added : Entry) → n ≡ length old.history.entries → history.entries ≡ old.history.entries ++ added ∷ [] → n + 1 ≡ length history.entries
  one_more n added is more = ap (λ k. k + 1) is ∙ sym (length-append old.history.entries (added ∷ [])) ∙ ap length (sym more)

  -- the state after a step is roomy
  roomy_after : (lists : Contents) (from : State) (at : StandsAt lists old from) (turn : Turn) → Step (image_limits old.geometry) counts from (Go seat) turn → IsRoomyState (image_limits at.layout.base.ckpt.geom) turn.after
  roomy_after lists from at turn steps =
      subst (λ geom. IsRoomyState (image_limits geom) turn.after) (sym at.sizes)
      (events_keep_states_roomy (image_limits old.geometry) counts from (Go seat) turn steps (subst (λ geom. IsRoomyState (image_limits geom) from) at.sizes at.roomy))

  -- the first flush: what it comes to, that this is a step, and where the volume stands after it
  module _ (has : HasWrittenPages old seat ino) (lists : Contents) (from : State) (at : StandsAt lists old from) where
    abbrev pages_turn : Turn
    pages_turn = turn_with (Stepped step.Flushed) (entry.Flushed seat ∷ []) [] (with_progress from seat ino (in_nodes None))

    none_dirty : least_of from.dirty_pages ino ≡ None
    none_dirty = ap (λ pages. least_of pages ino) (sym at.known.dirty_pages) ∙ has.written

    pages_step : Step (image_limits old.geometry) counts from (Go seat) pages_turn
    pages_step = step_by_part lists old from at seat ino has.progress (image_limits old.geometry) counts InPages pages_turn has.come (on_none (least_of from.dirty_pages ino) _ _ none_dirty (inl refl))

    pub pages_at : history.entries ≡ old.history.entries ++ entry.Flushed seat ∷ [] → StandsAt (flushed lists) (gone_on (map.insert old.files.flights seat (InFsync ino (in_nodes None)))) pages_turn.after
    pages_at more =
        let whole = at.kept (quiet lists old from at seat ino has.progress InPages has.come) in
        let kept = flushed_pages_whole lists at.layout from at.places at.unwritten seat ino has.progress whole (flies lists old from at seat ino has.progress InPages has.come) has.come.part_is (none_least from.dirty_pages ino none_dirty) in
        at_flushed lists old from at disk (with_flights old.files (map.insert old.files.flights seat (InFsync ino (in_nodes None)))) history refl at.layout pages_turn.after refl
        (entries_for_nothing (flushed lists) at.layout (with_progress from seat ino (in_nodes None)) at.places at.unwritten pages_turn.after.entries kept)
        (roomy_after lists from at pages_turn pages_step)
        (record {
          shapes = at.known.shapes;
          dirty_pages = at.known.dirty_pages;
          dirty_nodes = at.known.dirty_nodes;
          moved = at.known.moved;
          shrunk = at.known.shrunk;
          flights = ap (λ (f : Flights). map.insert f seat (InFsync ino (in_nodes None))) at.known.flights;
        }) refl (one_more from.entries (entry.Flushed seat) at.entries more)

  -- the last one
  module _ (has : HasWrittenMark old seat ino) (lists : Contents) (from : State) (at : StandsAt lists old from) where
    none_below : gap_below from has.progress.position ≡ None
    none_below = ap (λ (f : Flights). gap_among f has.progress.position) (sym at.known.flights) ∙ has.written

    ack_step : Step (image_limits old.geometry) counts from (Go seat) (acknowledges from seat ino has.progress)
    ack_step =
        step_by_part lists old from at seat ino has.progress (image_limits old.geometry) counts Marked (acknowledges from seat ino has.progress) has.come
        (on_none (gap_below from has.progress.position) _ _ none_below (inl refl))

    pub ack_at : history.entries ≡ old.history.entries ++ entry.Ack seat ino ∷ [] → StandsAt (flushed lists) (gone_on (map.remove old.files.flights seat)) (acknowledges from seat ino has.progress).after
    ack_at more =
        let whole = at.kept (quiet lists old from at seat ino has.progress Marked has.come) in
        let kept = acknowledgements_whole lists at.layout from at.places at.unwritten seat ino has.progress whole (flies lists old from at seat ino has.progress Marked has.come) has.come.part_is has.come.none_open none_below in
        at_flushed lists old from at disk (with_flights old.files (map.remove old.files.flights seat)) history refl (settled_to at.layout has.progress.position) (acknowledges from seat ino has.progress).after refl kept
        (roomy_after lists from at (acknowledges from seat ino has.progress) ack_step)
        (record {
          shapes = at.known.shapes;
          dirty_pages = at.known.dirty_pages;
          dirty_nodes = at.known.dirty_nodes;
          moved = at.known.moved;
          shrunk = at.known.shrunk;
          flights = ap (λ (f : Flights). map.remove f seat) at.known.flights;
        }) refl (one_more from.entries (entry.Ack seat ino) at.entries more)

  -- one that fails
  module _ (part : Part) (progress : Progress) (come : HasComeTo old seat ino part progress) (failed : HasFailed (meter old.disk) (meter disk))
      (row : (limits : Limits) (faults : Faults) (from : State) → IsKnownOf old.files from → HasRisen faults → StepPart faults from seat ino progress part (closed_by_fault faults seat kind.Flush step_failed (unchanged from step_failed)))
      (lists : Contents) (from : State) (at : StandsAt lists old from) where
    abbrev fault_turn : Turn
    fault_turn = closed_by_fault counts seat kind.Flush step_failed (unchanged from step_failed)

    fault_step : Step (image_limits old.geometry) counts from (Go seat) fault_turn
    fault_step = step_by_part lists old from at seat ino progress (image_limits old.geometry) counts part fault_turn come (row (image_limits old.geometry) counts from at.known failed)

    pub fault_at : history.entries ≡ old.history.entries ++ entry.Fault seat kind.Flush (meter disk).faults ∷ [] → StandsAt lists shut fault_turn.after
    fault_at more =
        at_closed lists old from at disk (with_flights old.files (map.remove old.files.flights seat)) history refl counts seat step_failed (roomy_after lists from at fault_turn fault_step) refl refl refl refl refl
        (one_more from.entries (entry.Fault seat kind.Flush (meter disk).faults) at.entries more)

  module _ (same : history.choices ≡ old.history.choices) where
    no_choice : history.choices ≡ old.history.choices ++ []
    no_choice = same ∙ sym (append-nil old.history.choices)

    pub pages_advance : HasWrittenPages old seat ino → contents disk ≡ option_map flushed (contents old.disk) → history.entries ≡ old.history.entries ++ entry.Flushed seat ∷ []
        → (start from : State) → StandsIn (contents old.disk) old from
        → AdvancesFrom contents meter old (gone_on (map.insert old.files.flights seat (InFsync ino (in_nodes None)))) (Go seat) (Stepped step.Flushed) start from
    pages_advance has told more start from stands = record {
      turn = pages_turn has stands.lists from stands.stands.at;
      step = pages_step has stands.lists from stands.stands.at;
      told = refl;
      state = record {
        lists = flushed stands.lists;
        holds = told ∙ ap (option_map flushed) stands.holds;
        stands = record {
          at = pages_at has stands.lists from stands.stands.at more;
          contents = contents_stay old.files (with_flights old.files (map.insert old.files.flights seat (InFsync ino (in_nodes None)))) old.pages from (pages_turn has stands.lists from stands.stands.at).after refl refl refl
              stands.lists (flushed stands.lists) (read_flushed stands.lists) stands.stands.contents;
        };
      };
      start = refl;
      entries = more;
      choices = no_choice;
    }

    pub ack_advances : HasWrittenMark old seat ino → contents disk ≡ option_map flushed (contents old.disk) → history.entries ≡ old.history.entries ++ entry.Ack seat ino ∷ []
        → (start from : State) → StandsIn (contents old.disk) old from
        → AdvancesFrom contents meter old (gone_on (map.remove old.files.flights seat)) (Go seat) (Stepped (step.Replied reply.Roll)) start from
    ack_advances has told more start from stands = record {
      turn = acknowledges from seat ino has.progress;
      step = ack_step has stands.lists from stands.stands.at;
      told = refl;
      state = record {
        lists = flushed stands.lists;
        holds = told ∙ ap (option_map flushed) stands.holds;
        stands = record {
          at = ack_at has stands.lists from stands.stands.at more;
          contents = contents_stay old.files (with_flights old.files (map.remove old.files.flights seat)) old.pages from (acknowledges from seat ino has.progress).after refl refl refl
              stands.lists (flushed stands.lists) (read_flushed stands.lists) stands.stands.contents;
        };
      };
      start = refl;
      entries = more;
      choices = no_choice;
    }

    pub fault_advances : (part : Part) (progress : Progress) → HasComeTo old seat ino part progress → contents disk ≡ contents old.disk → HasFailed (meter old.disk) (meter disk)
        → ((limits : Limits) (faults : Faults) (from : State) → IsKnownOf old.files from → HasRisen faults → StepPart faults from seat ino progress part (closed_by_fault faults seat kind.Flush step_failed (unchanged from step_failed)))
        → history.entries ≡ old.history.entries ++ entry.Fault seat kind.Flush (meter disk).faults ∷ []
        → (start from : State) → StandsIn (contents old.disk) old from → AdvancesFrom contents meter old shut (Go seat) step_failed start from
    fault_advances part progress come told failed row more start from stands = record {
      turn = fault_turn part progress come failed row stands.lists from stands.stands.at;
      step = fault_step part progress come failed row stands.lists from stands.stands.at;
      told = refl;
      state = record {
        lists = stands.lists;
        holds = told ∙ stands.holds;
        stands = record {
          at = fault_at part progress come failed row stands.lists from stands.stands.at more;
          contents = contents_stay old.files (with_flights old.files (map.remove old.files.flights seat)) old.pages from (fault_turn part progress come failed row stands.lists from stands.stands.at).after refl refl refl
              stands.lists stands.lists (λ at. refl) stands.stands.contents;
        };
      };
      start = refl;
      entries = more;
      choices = no_choice;
    }

-- the rows of a first and of a last flush that fails
module _ (files : Known) (seat ino : ℕ) (progress : Progress) where
  pub pages_fail : least_of files.dirty_pages ino ≡ None → (limits : Limits) (faults : Faults) (from : State) → IsKnownOf files from → HasRisen faults
      → StepPart faults from seat ino progress InPages (closed_by_fault faults seat kind.Flush step_failed (unchanged from step_failed))
  pages_fail written limits faults from known risen =
      on_none (least_of from.dirty_pages ino) _ _ (ap (λ pages. least_of pages ino) (sym known.dirty_pages) ∙ written) (inr (risen, refl))

  pub ack_fails : gap_among files.flights progress.position ≡ None → (limits : Limits) (faults : Faults) (from : State) → IsKnownOf files from → HasRisen faults
      → StepPart faults from seat ino progress Marked (closed_by_fault faults seat kind.Flush step_failed (unchanged from step_failed))
  ack_fails written limits faults from known risen =
      on_none (gap_below from progress.position) _ _ (ap (λ (f : Flights). gap_among f progress.position) (sym known.flights) ∙ written) (inr (risen, refl))

-- a volume stands on some contents in the state that an event came to
pub record GoesTo {D : Type 0} (new : Seen D) : Type 0 where
  pub lists : Contents
  pub state : State
  pub at : StandsAt lists new state

-- where each state that a volume stood in leads on to one that it stands in, it is a volume still
pub volume_goes : {D : Type 0} (blocks : ℕ) (told now : Option Contents) (old new : Seen D) → IsVolume blocks told old → new.geometry ≡ old.geometry → new.files.shapes ≡ old.files.shapes → (told ≡ None → now ≡ None)
    → ((lists : Contents) (state : State) → StandsAt lists old state → GoesTo new) → ((state : State) → StandsIn told old state → (after : State) × StandsIn now new after) → IsVolume blocks now new
volume_goes blocks told now old new is sizes shapes none at goes = record {
  held = subst (λ (geom : ImageGeometry). geom.blocks ≤ blocks) (sym sizes) is.held;
  within = λ ino page place known. subst (λ (geom : ImageGeometry). place < geom.blocks) (sym sizes) (is.within ino page place (ap (λ all. address_in page (map.get all ino)) (sym shapes) ∙ known));
  somewhere = somewhere told is.somewhere none goes;
}
  where
    somewhere : (told : Option Contents) → StandsSomewhere told old → (told ≡ None → now ≡ None) → ((state : State) → StandsIn told old state → (after : State) × StandsIn now new after) → StandsSomewhere now new
    somewhere None is none goes =
        let next = at is.lists is.state is.at in
        subst (λ o. StandsSomewhere o new) (sym (none refl)) (record { lists = next.lists; state = next.state; at = next.at; holds = tt; contents = λ tells. absurd (cc) })
    somewhere (Some lists) is none goes =
        let next = goes is.state (in_somewhere lists old is) in
        somewhere_in now new next.0 next.1

-- so an event is told of by its step, where the disk was flushed once
pub goes_follow : {D : Type 0} (contents : D → Option Contents) (meter : D → Meter) (old new : Seen D) (event : Event) (answer : Answer) → new.geometry ≡ old.geometry → IsWithin 0 (meter old.disk) (meter new.disk)
    → ((start from : State) → StandsIn (contents old.disk) old from → AdvancesFrom contents meter old new event answer start from) → Follows contents meter old new event answer
goes_follow contents meter old new event answer sizes within advances = record { sizes = sizes; counted = within.later; advances = advances }

-- and the volume is one still
pub volume_follows : {D : Type 0} (contents : D → Option Contents) (meter : D → Meter) (old new : Seen D) (event : Event) (answer : Answer) → IsVolume (meter old.disk).blocks (contents old.disk) old
    → new.geometry ≡ old.geometry → new.files.shapes ≡ old.files.shapes → (contents old.disk ≡ None → contents new.disk ≡ None) → IsWithin 0 (meter old.disk) (meter new.disk)
    → ((lists : Contents) (state : State) → StandsAt lists old state → GoesTo new) → ((start from : State) → StandsIn (contents old.disk) old from → AdvancesFrom contents meter old new event answer start from) → IsVolume (meter new.disk).blocks (contents new.disk) new
volume_follows contents meter old new event answer is sizes shapes none within at advances =
    subst (λ blocks. IsVolume blocks (contents new.disk) new) (sym within.same_blocks)
    (volume_goes (meter old.disk).blocks (contents old.disk) (contents new.disk) old new is sizes shapes none at (λ state stands. let next = advances state state stands in (next.turn.after, next.state)))

-- a disk that doesn't tell doesn't tell after a flush
pub untold_flushed : (told now : Option Contents) → now ≡ option_map flushed told → told ≡ None → now ≡ None
untold_flushed told now made none = made ∙ ap (option_map flushed) none

pub untold_same : (told now : Option Contents) → now ≡ told → told ≡ None → now ≡ None
untold_same told now same none = same ∙ none
