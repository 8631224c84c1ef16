-- Where a call in flight stands, when the flusher may write, and what the next event comes to.
use Rattle.std.specs.Prelude.{◌≡◌, ℕ, true, false, nat_le, is_some, Some, None}
use Rattle.std.specs.FinMap as map
use Rattle.f2_model.specs.State.{State, Part, Progress, InFsync}
use Rattle.f2_model.specs.Step as machine
use Rattle.f2_model.specs.Step.{Turn, StepClose}
use Rattle.f2_model.specs.declared.events.Event.TheVariants.{Go, Tick}
use Rattle.f2_model.specs.declared.events.Answer.TheVariants.{Began, Stepped, Ticked}
use Rattle.f2_model.specs.declared.modes.Format.{Format}
use Rattle.f2_model.specs.declared.replies.Begun.{Begun}
use Rattle.f2_model.specs.declared.replies.Step as step_type
use Rattle.f2_model.specs.declared.replies.Tick as tick_type
use Rattle.f2_laws.specs.Choice.{IsFaultless}
use Rattle.f2_reference_state.specs.Seen.{Seen, after_turn}
use Rattle.f2_reference.specs.declared.choices.Choices.{Choices}
use Rattle.f2_reference.specs.Choosing.{ComesTo, blocks_after}

-- a seat's call is an fsync of a file that is at this part with no position open, and the volume isn't closed
pub record IsAt (state : State) (seat ino : ℕ) (part : Part) : Type 0 where
  pub progress : Progress
  pub flight : map.get state.flights seat ≡ Some (InFsync ino progress)
  pub part_is : progress.part ≡ part
  pub written : progress.slot ≡ None
  pub unshut : machine.is_shut state.mode ≡ false

-- the next event of a seat's call came to this step, whatever a machine is told to choose elsewhere
abbrev pub GoesTo : Seen → Seen → ℕ → step_type.Step → Type 0
GoesTo old new seat step = (choices : Choices) → ComesTo choices old new (Go seat) (Stepped step)

-- the flusher may look for a block to write: the volume is open, the history has room, nobody makes a checkpoint, and something is dirty
pub record MayTick (state : State) : Type 0 where
  pub up : machine.is_up state.mode ≡ true
  pub early : nat_le machine.MOST_ENTRIES state.entries ≡ false
  pub alone : is_some (machine.checking_seat state) ≡ false
  pub dirty : machine.is_clean state ≡ false

-- an event of the flusher came to this, whatever a machine is told to choose elsewhere
abbrev pub TicksTo : Seen → Seen → tick_type.Tick → Type 0
TicksTo old new tick = (choices : Choices) → ComesTo choices old new Tick (Ticked tick)

-- an unmount or an upgrade, whose checkpoint has this format, came to one of its turns with this answer
pub record ClosesTo (choices : Choices) (old new : Seen) (format : Format) (begun : Begun) : Type 0 where
  pub turn : Turn
  pub is : StepClose old.state format turn
  pub faultless : IsFaultless turn
  pub told : turn.answer ≡ Began begun
  pub after : new ≡ record (after_turn old turn) { blocks = blocks_after choices old (Began begun) }
