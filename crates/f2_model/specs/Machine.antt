-- What one event of a machine is to its callers.
use Rattle.std.specs.Prelude.{◌≡◌, ℕ, ◌*◌, ◌||◌, Bool, nat_lt, ◌++◌, length}
use Rattle.f2_model.specs.declared.bounds.Limits.{Limits}
use Rattle.f2_model.specs.History.{Account}
use Rattle.f2_model.specs.State.{State}
use Rattle.f2_model.specs.Step.{Faults, Turn, Step}
use Rattle.f2_model.specs.declared.events.Event.{Event}
use Rattle.f2_model.specs.declared.events.Answer.{Answer}
use Rattle.f2_model.specs.Run.{IsRun}

-- one event was a step of the abstract machine from a state to one that a machine may be in, with this answer, and the account of it
-- goes on by what the event left
pub record Advances (limits : Limits) (faults : Faults) (from : State) (MayBe : State → Type 0) (before after : Account) (event : Event) (answer : Answer) : Type 0 where
  pub turn : Turn
  pub step : Step limits faults from event turn
  pub told : turn.answer ≡ answer
  pub state : MayBe turn.after
  pub start : after.start ≡ before.start
  pub entries : after.entries ≡ before.entries ++ turn.entries
  pub choices : after.choices ≡ before.choices ++ turn.choices

-- the account of a machine is a run that leads to a state, on a disk whose count of faults has come to a number
pub record LeadsTo (limits : Limits) (faults : ℕ) (account : Account) (state : State) : Type 0 where
  pub before : ℕ
  pub run : IsRun limits (record { before = before; after = faults }) account.start account.entries account.choices state
  pub entries : state.entries ≡ length account.entries

-- whether more than half of what a zone may be written between two checkpoints is used
abbrev pub is_half_used : Limits → State → Bool
is_half_used limits state = nat_lt limits.nodes (2 * state.node_writes) || nat_lt limits.data_blocks (2 * state.data_writes)
