-- What keeps a call from taking effect.
use Rattle.std.specs.Prelude.{◌≡◌, ℕ, ◌<◌, true, None, []}
use Rattle.f2_model.specs.Call.{refusal}
use Rattle.f2_model.specs.State.{State}
use Rattle.f2_model.specs.Step.{Faults, MOST_ENTRIES, is_up, barring_seat, freezing, StepBegin, unchanged, told_at_once, replied}
use Rattle.f2_model.specs.declared.bounds.Limits.{Limits}
use Rattle.f2_model.specs.declared.replies.Reply.{Reply}
use Rattle.f2_model.specs.declared.requests.Request.{Request}
use Rattle.f2_state.specs.declared.barring.Barred.{Barred}
use Rattle.f2_state.specs.declared.barring.Barred.TheVariants.{Unheard, Refused}

-- a call of a seat is heard
pub record IsHeard (state : State) (seat : ℕ) : Type 0 where
  pub up : is_up state.mode ≡ true
  pub few : state.entries < MOST_ENTRIES
  pub alone : barring_seat state seat ≡ None

-- a call of a seat begins so, whatever it asks, and leaves nothing
abbrev pub IsUnheard : State → ℕ → Reply → Type 0
IsUnheard state seat told = (limits : Limits) (faults : Faults) (request : Request) → StepBegin limits faults state seat request (unchanged state (replied told))

-- nothing but want of space keeps a call of a seat from being served
pub record IsLetIn (limits : Limits) (state : State) (seat : ℕ) (request : Request) : Type 0 where
  pub heard : IsHeard state seat
  pub unrefused : refusal limits state.live request ≡ None
  pub unfrozen : freezing state request ≡ None

-- a call begins so: it leaves nothing, or the entry of its refusal
abbrev pub IsBarred : Limits → State → ℕ → Request → Barred → Type 0
IsBarred limits state seat request (Unheard told) = (faults : Faults) → StepBegin limits faults state seat request (unchanged state (replied told))
IsBarred limits state seat request (Refused told) = (faults : Faults) → StepBegin limits faults state seat request (told_at_once state seat request told [] state)
