-- What a crash may leave of a state, and what events do to it.
use Rattle.std.specs.Prelude.{◌≡◌, ◌+◌, ◌≤◌, ◌⊎◌, ◌↔◌, Bool, true, false, IsTrue, List, [], ◌++◌, length}
use Rattle.std.specs.List.{list_any}
use Rattle.f2_model.specs.declared.bounds.Limits.{Limits}
use Rattle.f2_model.specs.State.{State, Mark, Meaning, MayRemain, rolled}
use Rattle.f2_model.specs.Step.{Faults, Turn, Step, crashed}
use Rattle.f2_model.specs.declared.events.Event.{Event}
use Rattle.f2_model.specs.declared.histories.Entry.{Entry}
use Rattle.f2_model.specs.declared.histories.Entry.TheVariants.{CpDone, Mounted}

-- a crash changes nothing of what a crash may leave, so any number of crashes leave what one may
abbrev pub CrashesLeaveTheSame : Type 0
CrashesLeaveTheSame = (state : State) (meaning : Meaning) → MayRemain (crashed state).after meaning ↔ MayRemain state meaning

-- an entry that tells the end of a checkpoint, and one that tells what a mount found
abbrev pub is_checkpoint_done : Entry → Bool
is_checkpoint_done (CpDone seat) = true
is_checkpoint_done _ = false

abbrev pub is_mounted : Entry → Bool
is_mounted (Mounted rows) = true
is_mounted _ = false

-- nothing durable is lost from a state to a later one: the base stays with its format and version, marks only join, and acknowledged ones stay so
pub record KeepsDurable (before after : State) : Type 0 where
  pub base : after.base ≡ before.base
  pub format : after.format ≡ before.format
  pub version : after.version ≡ before.version
  pub marks : (more : List Mark) × (after.marks ≡ before.marks ++ more)
  pub acknowledged : before.acknowledged ≤ after.acknowledged

-- a checkpoint is done: the tree that calls see is the base, in the checkpoint's format and the next version, and no mark is left
pub record IsCheckpointed (before after : State) : Type 0 where
  pub base : after.base ≡ before.live
  pub format : after.format ≡ before.next_format
  pub version : after.version ≡ before.version + 1
  pub live : after.live ≡ before.live
  pub marks : after.marks ≡ []

-- what a state shows of its image: its base with the marks since, the image's format, and its checkpoint's version
abbrev pub meaning_of : State → Meaning
meaning_of state = record { base = state.base; marks = state.marks; format = state.format; version = state.version }

-- a mount found what a crash may leave, and has rolled its marks over its base; all of them count as acknowledged
pub record IsFound (before after : State) : Type 0 where
  pub remained : MayRemain before (meaning_of after)
  pub live : after.live ≡ rolled after.base after.marks
  pub acknowledged : after.acknowledged ≡ length after.marks

-- an event loses nothing durable, unless it ends a checkpoint or is a mount that finds a tree, and its entries tell which
abbrev pub EventsKeepDurable : Type 0
EventsKeepDurable =
    (limits : Limits) (faults : Faults) (state : State) (event : Event) (turn : Turn) →
    Step limits faults state event turn →
    KeepsDurable state turn.after
    ⊎ (IsTrue (list_any is_checkpoint_done turn.entries) × IsCheckpointed state turn.after)
    ⊎ (IsTrue (list_any is_mounted turn.entries) × IsFound state turn.after)
