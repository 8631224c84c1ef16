-- Events of a seat's call that ask nothing of the disk.
use Rattle.std.proofs.Common.{◌≡◌, ℕ, ◌+◌, ◌&&◌, Bool, true, false, [], length, refl, ap, sym, subst, ◌∙◌, arith, true≢false}
use Rattle.std.specs.Prelude.{Option, Some, None, is_none}
use Rattle.std.specs.FinMap as map
use Rattle.std.proofs.lemmas.List.{append-nil}
use Rattle.f2_disk.specs.Contents.{Contents}
use Rattle.f2_disk.specs.Meter.{Meter}
use Rattle.f2_disk.proofs.MeterLaws.{within_none}
use Rattle.f2_event_laws.proofs.Faulted.{failed_flushes}
use Rattle.f2_files.specs.Known.{Known}
use Rattle.f2_image_laws.specs.Rolled.{image_limits}
use Rattle.f2_laws.specs.Flights.{Flights}
use Rattle.f2_model.specs.State.{State, Part, InPages, InNodes, Marked, Slot, Progress, Flight, InFsync, InCheck}
use Rattle.f2_model.specs.Step.{Faults, Turn, Step, StepFsync, StepFlight, is_shut, is_up, checking_seat, gap_below, turn_with, unchanged, without_call, closed_by_fault, step_failed}
use Rattle.f2_model.specs.declared.events.Answer.TheVariants.{Stepped}
use Rattle.f2_model.specs.declared.events.Event.TheVariants.{Go}
use Rattle.f2_model.specs.declared.histories.CallKind.TheVariants as kind
use Rattle.f2_model.specs.declared.modes.Mode.{Mode}
use Rattle.f2_model.specs.declared.modes.Mode.TheVariants.{Shut, Mounting, Up}
use Rattle.f2_model.specs.declared.replies.Reply.TheVariants as reply
use Rattle.f2_model.specs.declared.replies.Step.TheVariants as step
use Rattle.f2_room_laws.proofs.Roomy.{events_keep_states_roomy}
use Rattle.f2_room_laws.specs.RoomForWrites.{IsRoomyState}
use Rattle.f2_stored.specs.Stored.{IsStored}
use Rattle.f2_state.specs.Following.{AdvancesFrom, Follows, faults_between}
use Rattle.f2_state.specs.Idling.{waited_for}
use Rattle.f2_state.specs.Seen.{Seen}
use Rattle.f2_state.specs.Standing.{StandsAt, StandsIn, IsVolume}
use Rattle.f2_state.proofs.Advancing.{advances_by}
use Rattle.f2_state.proofs.Counted.{stored_counted}
use Rattle.f2_state.proofs.Flushed.{contents_stay}
use Rattle.f2_state.proofs.Going.{with_flights, goes_follow, volume_follows}
use Rattle.f2_state.proofs.Tables.{on_none, on_some, on_true, on_false}
use Rattle.f2_state.proofs.Unchanged.{looks_none}

-- a mark that waits is a row of the table of an fsync's events
module _ (faults : Faults) (from : State) (seat position : ℕ) where
  by_part : (ino place at : ℕ) (part : Part) (slot : Option Slot) → waited_for from.flights (InFsync ino (record { part = part; place = place; position = at; slot = slot })) ≡ Some position
      → StepFsync faults from seat ino (record { part = part; place = place; position = at; slot = slot }) (unchanged from (Stepped (step.Again position)))
  by_part ino place at Marked None is = on_some (gap_below from at) _ _ position is refl
  by_part ino place at Marked (Some slot) is = absurd (cc)
  by_part ino place at InPages slot is = absurd (cc)
  by_part ino place at InNodes slot is = absurd (cc)

  again_row : (flight : Flight) → waited_for from.flights flight ≡ Some position → StepFlight faults from seat flight (unchanged from (Stepped (step.Again position)))
  again_row (InFsync ino progress) is = by_part ino progress.place progress.position progress.part progress.slot is
  again_row (InCheck plan) is = absurd (cc)

module _ {D : Type 0} (contents : D → Option Contents) (meter : D → Meter) (old : Seen D) (seat : ℕ) where
  -- no call is in flight
  pub none_follows : map.get old.files.flights seat ≡ None → Follows contents meter old old (Go seat) (Stepped step.None)
  none_follows none = goes_follow contents meter old old (Go seat) (Stepped step.None) refl (within_none (meter old.disk)) (λ start from stands.
      advances_by contents meter old old old.history [] (Go seat) (Stepped step.None) start from (looks_none contents meter old) (sym (append-nil old.history.entries)) refl stands
      (on_none (map.get from.flights seat) _ _ (ap (λ (f : Flights). map.get f seat) (sym stands.stands.at.known.flights) ∙ none) refl))

  -- a mark waits
  pub again_follows : (flight : Flight) (position : ℕ) → map.get old.files.flights seat ≡ Some flight → is_shut old.mode ≡ false → waited_for old.files.flights flight ≡ Some position
      → Follows contents meter old old (Go seat) (Stepped (step.Again position))
  again_follows flight position there open_still waits = goes_follow contents meter old old (Go seat) (Stepped (step.Again position)) refl (within_none (meter old.disk)) (λ start from stands.
      advances_by contents meter old old old.history [] (Go seat) (Stepped (step.Again position)) start from (looks_none contents meter old) (sym (append-nil old.history.entries)) refl stands
      (on_some (map.get from.flights seat) _ _ flight (ap (λ (f : Flights). map.get f seat) (sym stands.stands.at.known.flights) ∙ there)
      (on_false (is_shut from.mode) _ _ (ap is_shut (sym stands.stands.at.mode) ∙ open_still)
      (again_row (faults_between (meter old.disk) (meter old.disk)) from seat position flight (ap (λ (f : Flights). waited_for f flight) (sym stands.stands.at.known.flights) ∙ waits)))))

  -- the volume was closed since the call began, and the seat leaves
  module _ (flight : Flight) (there : map.get old.files.flights seat ≡ Some flight) (closed : old.mode ≡ Shut) where
    abbrev gone : Seen D
    gone = record old { files = with_flights old.files (map.remove old.files.flights seat) }

    abbrev left : State → Turn
    left from = turn_with (Stepped (step.Replied reply.Closed)) [] [] (without_call from seat)

    abbrev counts : Faults
    counts = faults_between (meter old.disk) (meter old.disk)

    module _ (lists : Contents) (from : State) (at : StandsAt lists old from) where
      is_closed : Shut ≡ from.mode
      is_closed = sym closed ∙ at.mode

      left_step : Step (image_limits old.geometry) counts from (Go seat) (left from)
      left_step =
          on_some (map.get from.flights seat) _ _ flight (ap (λ (f : Flights). map.get f seat) (sym at.known.flights) ∙ there)
          (on_true (is_shut from.mode) _ _ (ap is_shut (sym is_closed)) refl)

      left_stored : IsStored lists at.layout (left from).after
      left_stored =
          subst (λ (mode : Mode). IsStored lists at.layout (record from { mode = mode; flights = map.remove from.flights seat; entries = from.entries + 0 })) is_closed
          (stored_counted lists at.layout (closed_by_fault counts seat kind.Flush step_failed (unchanged from step_failed)).after (from.entries + 0) (failed_flushes lists at.layout from counts seat step_failed at.stored))

      left_at : StandsAt lists gone (left from).after
      left_at = record {
        layout = at.layout;
        places = at.places;
        unwritten = at.unwritten;
        roomy = subst (λ geom. IsRoomyState (image_limits geom) (left from).after) (sym at.sizes)
            (events_keep_states_roomy (image_limits old.geometry) counts from (Go seat) (left from) left_step (subst (λ geom. IsRoomyState (image_limits geom) from) at.sizes at.roomy));
        stored = left_stored;
        kept = λ quiet. absurd (true≢false (sym quiet ∙ ap (λ mode. is_up mode && is_none (checking_seat (left from).after)) (sym is_closed)));
        sizes = at.sizes;
        known = record {
          shapes = at.known.shapes;
          dirty_pages = at.known.dirty_pages;
          dirty_nodes = at.known.dirty_nodes;
          moved = at.known.moved;
          shrunk = at.known.shrunk;
          flights = ap (λ (f : Flights). map.remove f seat) at.known.flights;
        };
        placed = at.placed;
        mode = at.mode;
        entries = (let same = at.entries in omega (arith, same));
      }

    left_advances : (start from : State) → StandsIn (contents old.disk) old from → AdvancesFrom contents meter old gone (Go seat) (Stepped (step.Replied reply.Closed)) start from
    left_advances start from stands = record {
      turn = left from;
      step = left_step stands.lists from stands.stands.at;
      told = refl;
      state = record {
        lists = stands.lists;
        holds = stands.holds;
        stands = record {
          at = left_at stands.lists from stands.stands.at;
          contents = contents_stay old.files (with_flights old.files (map.remove old.files.flights seat)) old.pages from (left from).after refl refl refl stands.lists stands.lists (λ at. refl) stands.stands.contents;
        };
      };
      start = refl;
      entries = sym (append-nil old.history.entries);
      choices = sym (append-nil old.history.choices);
    }

    pub left_follows : (files : Known) → files ≡ with_flights old.files (map.remove old.files.flights seat) → Follows contents meter old (record old { files = files }) (Go seat) (Stepped (step.Replied reply.Closed))
    left_follows files is =
        subst (λ f. Follows contents meter old (record old { files = f }) (Go seat) (Stepped (step.Replied reply.Closed))) (sym is)
        (goes_follow contents meter old gone (Go seat) (Stepped (step.Replied reply.Closed)) refl (within_none (meter old.disk)) left_advances)

    pub left_volume : (files : Known) → files ≡ with_flights old.files (map.remove old.files.flights seat) → IsVolume (meter old.disk).blocks (contents old.disk) old → IsVolume (meter old.disk).blocks (contents old.disk) (record old { files = files })
    left_volume files is volume =
        subst (λ f. IsVolume (meter old.disk).blocks (contents old.disk) (record old { files = f })) (sym is)
        (volume_follows contents meter old gone (Go seat) (Stepped (step.Replied reply.Closed)) volume refl refl (λ none. none) (within_none (meter old.disk))
        (λ lists from at. record { lists = lists; state = (left from).after; at = left_at lists from at }) left_advances)

-- a mode that isn't that of a closed volume
pub still_open : (mode : Mode) → (mode ≡ Shut → ⊥) → is_shut mode ≡ false
still_open Shut other = absurd (other refl)
still_open Mounting other = refl
still_open Up other = refl
