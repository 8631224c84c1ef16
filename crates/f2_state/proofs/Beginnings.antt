-- What keeps a call off, as rows of the table of beginnings.
use Rattle.std.proofs.Common.{◌≡◌, ◌≢◌, ℕ, ◌<◌, ◌≤◌, true, false, not, nat_le, [], refl, ap}
use Rattle.std.specs.Prelude.{Some, None, Result, Ok, Err, MatchOption}
use Rattle.f2_model.specs.Call.{refusal}
use Rattle.f2_model.specs.State.{State}
use Rattle.f2_model.specs.Step.{Faults, Turn, Serves, StepBegin, MOST_ENTRIES, is_up, barring_seat, freezing, freezing_walked, freezing_seat, unchanged, told_at_once, replied}
use Rattle.f2_model.specs.declared.bounds.Limits.{Limits}
use Rattle.f2_model.specs.declared.modes.Mode.{Mode}
use Rattle.f2_model.specs.declared.modes.Mode.TheVariants.{Shut, Mounting, Up}
use Rattle.f2_model.specs.declared.replies.Reply.{Reply}
use Rattle.f2_model.specs.declared.replies.Reply.TheVariants as reply
use Rattle.f2_model.specs.declared.requests.Request.{Request}
use Rattle.f2_model.specs.declared.rows.Row.{Row}
use Rattle.f2_files.specs.Led.{ino_at}
use Rattle.f2_state.specs.Barred.{IsHeard, IsUnheard, IsLetIn}
use Rattle.f2_state.proofs.Tables.{on_false, on_true, on_none, on_some, is_le, is_above}

pub not_up : (mode : Mode) → mode ≢ Up → is_up mode ≡ false
not_up Shut other = refl
not_up Mounting other = refl
not_up Up other = absurd (other refl)

-- the seat that has the row in fsync at whose ino a walk ends
pub held_at : (state : State) (end : Result Row Reply) (ino : ℕ) → ino_at end ≡ Ok ino → freezing_walked state end ≡ freezing_seat state ino
held_at state (Ok row) ino is = ap (λ i. freezing_seat state i) (cc)
held_at state (Err refused) ino is = absurd (cc)

pub held_nowhere : (state : State) (end : Result Row Reply) (refused : Reply) → ino_at end ≡ Err refused → freezing_walked state end ≡ None
held_nowhere state (Ok row) refused is = absurd (cc)
held_nowhere state (Err other) refused is = refl

module _ (state : State) (seat : ℕ) where
  pub closed : is_up state.mode ≡ false → IsUnheard state seat reply.Closed
  closed shut limits faults request = on_true (not (is_up state.mode)) _ _ (ap not shut) refl

  pub spent : is_up state.mode ≡ true → MOST_ENTRIES ≤ state.entries → IsUnheard state seat reply.Spent
  spent up full limits faults request = on_false (not (is_up state.mode)) _ _ (ap not up) (on_true (nat_le MOST_ENTRIES state.entries) _ _ (is_le MOST_ENTRIES state.entries full) refl)

  pub busy : (by : ℕ) → is_up state.mode ≡ true → state.entries < MOST_ENTRIES → barring_seat state seat ≡ Some by → IsUnheard state seat (reply.Busy by)
  busy by up few bars limits faults request =
      on_false (not (is_up state.mode)) _ _ (ap not up) (on_false (nat_le MOST_ENTRIES state.entries) _ _ (is_above MOST_ENTRIES state.entries few)
      (on_some (barring_seat state seat) _ _ by bars refl))

  -- a call that is heard goes on to its refusals
  pub heard : (limits : Limits) (faults : Faults) (request : Request) (turn : Turn) → IsHeard state seat
      → MatchOption (refusal limits state.live request)
      (MatchOption (freezing state request) (Serves limits faults state seat request turn) (λ by. turn ≡ unchanged state (replied (reply.Busy by))))
      (λ refused. turn ≡ told_at_once state seat request refused [] state)
      → StepBegin limits faults state seat request turn
  heard limits faults request turn is rest =
      on_false (not (is_up state.mode)) _ _ (ap not is.up) (on_false (nat_le MOST_ENTRIES state.entries) _ _ (is_above MOST_ENTRIES state.entries is.few)
      (on_none (barring_seat state seat) _ _ is.alone rest))

  pub refused : (limits : Limits) (faults : Faults) (request : Request) (why : Reply) → IsHeard state seat → refusal limits state.live request ≡ Some why
      → StepBegin limits faults state seat request (told_at_once state seat request why [] state)
  refused limits faults request why is because = heard limits faults request _ is (on_some (refusal limits state.live request) _ _ why because refl)

  pub frozen : (limits : Limits) (faults : Faults) (request : Request) (by : ℕ) → IsHeard state seat → refusal limits state.live request ≡ None → freezing state request ≡ Some by
      → StepBegin limits faults state seat request (unchanged state (replied (reply.Busy by)))
  frozen limits faults request by is none freezes = heard limits faults request _ is (on_none (refusal limits state.live request) _ _ none (on_some (freezing state request) _ _ by freezes refl))

  -- and one that is let in is served
  pub served : (limits : Limits) (faults : Faults) (request : Request) (turn : Turn) → IsLetIn limits state seat request → Serves limits faults state seat request turn → StepBegin limits faults state seat request turn
  served limits faults request turn is serves =
      heard limits faults request turn is.heard (on_none (refusal limits state.live request) _ _ is.unrefused (on_none (freezing state request) _ _ is.unfrozen serves))
