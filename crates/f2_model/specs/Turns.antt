-- What an event comes to: its answer, the entries that it leaves, and the state after it; and what a failed write or flush makes of it.
use Rattle.std.specs.Prelude.{◌≡◌, ℕ, ◌+◌, ◌^◌, ◌-◌, ◌≤◌, min, Bool, true, false, ◌⊎◌, List, [], ◌∷◌, ◌++◌, length, Option, MatchOption}
use Rattle.std.specs.FinMap as map
use Rattle.f2_model.specs.State.{State}
use Rattle.f2_model.specs.declared.modes.Mode.{Mode}
use Rattle.f2_model.specs.declared.modes.Mode.TheVariants.{Shut, Up}
use Rattle.f2_model.specs.declared.requests.Request.{Request}
use Rattle.f2_model.specs.declared.replies.Begun.TheVariants.{Replied}
use Rattle.f2_model.specs.declared.replies.Step.TheVariants as step
use Rattle.f2_model.specs.declared.replies.Reply.{Reply}
use Rattle.f2_model.specs.declared.replies.Reply.TheVariants as reply
use Rattle.f2_model.specs.declared.replies.Outcome as outcome_type
use Rattle.f2_model.specs.declared.replies.Outcome.TheVariants as outcome
use Rattle.f2_model.specs.declared.events.Answer.{Answer}
use Rattle.f2_model.specs.declared.events.Answer.TheVariants.{Began, Stepped}
use Rattle.f2_model.specs.declared.histories.CallKind.{CallKind}
use Rattle.f2_model.specs.declared.histories.CallKind.TheVariants as kind
use Rattle.f2_model.specs.declared.histories.Entry.{Entry}
use Rattle.f2_model.specs.declared.histories.Entry.TheVariants as entry

-- the disk's count of faults before and after an event, or before and after a run
pub record Faults : Type 0 where
  pub before : ℕ
  pub after : ℕ

-- no call of a disk failed
abbrev pub calm : Faults
calm = record { before = 0; after = 0 }

-- a call of the disk failed in the event; a count stands still at its type's end
abbrev pub HasRisen : Faults → Type 0
HasRisen faults = min (faults.before + 1) (2 ^ 64 - 1) ≤ faults.after

-- what an event came to: its answer, the entries and choices that it leaves, and the state after it
pub record Turn : Type 0 where
  pub answer : Answer
  pub entries : List Entry
  pub choices : List ℕ
  pub after : State

-- a call begins only while the history has fewer entries
abbrev pub MOST_ENTRIES : ℕ
MOST_ENTRIES = 262144

-- the seat of the mount, the unmount and the upgrade; and the one named by faults of the flusher and of a mount
abbrev pub MOUNT_SEAT : ℕ
MOUNT_SEAT = 0

abbrev pub NO_SEAT : ℕ
NO_SEAT = 255

-- a seat that calls are made from
pub record IsSeat (seat : ℕ) : Type 0 where
  pub first : 1 ≤ seat
  pub last : seat ≤ 9

abbrev pub is_up : Mode → Bool
is_up Up = true
is_up _ = false

abbrev pub is_shut : Mode → Bool
is_shut Shut = true
is_shut _ = false

-- a row of a table of events: where there is such a thing it decides, and else the next row
abbrev pub WhereSome : {X : Type 0} → Option X → (X → Type 0) → Type 0 → Type 0
WhereSome found row next = MatchOption found next row

-- an event that answers, leaves entries and choices, and goes on to a state
abbrev pub turn_with : Answer → List Entry → List ℕ → State → Turn
turn_with answer entries choices after = record { answer = answer; entries = entries; choices = choices; after = record after { entries = after.entries + length entries } }

-- an event that answers and changes nothing
abbrev pub unchanged : State → Answer → Turn
unchanged state answer = turn_with answer [] [] state

-- a state in which a seat has no call in flight
abbrev pub without_call : State → ℕ → State
without_call state seat = record state { flights = map.remove state.flights seat }

-- an event after which the volume is closed, since its write or flush failed; a seat leaves
abbrev pub closed_by_fault : Faults → ℕ → CallKind → Answer → Turn → Turn
closed_by_fault faults seat call answer turn = record {
  answer = answer;
  entries = turn.entries ++ entry.Fault seat call faults.after ∷ [];
  choices = turn.choices;
  after = record turn.after { mode = Shut; flights = map.remove turn.after.flights seat; entries = turn.after.entries + 1 };
}

-- an event that makes one write: it comes to what was meant, or the write failed, and what it meant to write may stand all the same
abbrev pub Writes : Faults → ℕ → Answer → Turn → Turn → Type 0
Writes faults seat failed meant turn = (turn ≡ meant) ⊎ (HasRisen faults × (turn ≡ closed_by_fault faults seat kind.Write failed meant))

-- an event that makes one flush: it comes to what was meant, or the flush failed, and nothing else is changed
abbrev pub Flushes : Faults → State → ℕ → Answer → Turn → Turn → Type 0
Flushes faults state seat failed meant turn = (turn ≡ meant) ⊎ (HasRisen faults × (turn ≡ closed_by_fault faults seat kind.Flush failed (unchanged state failed)))

-- a reply without the contents that the tree determines
abbrev pub outcome_of : Reply → outcome_type.Outcome
outcome_of reply.Done = outcome.Done
outcome_of (reply.Bytes bytes) = outcome.Bytes
outcome_of (reply.Names names) = outcome.Names
outcome_of reply.Roll = outcome.Roll
outcome_of (reply.Cp reason) = outcome.Cp reason
outcome_of reply.Synced = outcome.Synced
outcome_of reply.Closed = outcome.Closed
outcome_of reply.Spent = outcome.Spent
outcome_of (reply.Busy by) = outcome.Busy by
outcome_of reply.BadName = outcome.BadName
outcome_of reply.NoEnt = outcome.NoEnt
outcome_of reply.NotDir = outcome.NotDir
outcome_of reply.IsDir = outcome.IsDir
outcome_of reply.Exists = outcome.Exists
outcome_of reply.NotEmpty = outcome.NotEmpty
outcome_of reply.TooBig = outcome.TooBig
outcome_of (reply.NoSpace space need limit) = outcome.NoSpace space need limit
outcome_of reply.ReadFault = outcome.ReadFault
outcome_of reply.WriteFault = outcome.WriteFault
outcome_of reply.Memory = outcome.Memory

-- a call of one event that is answered, or a call that is refused
abbrev pub replied : Reply → Answer
replied told = Began (Replied told)

-- the answer of a step whose write or flush failed
abbrev pub step_failed : Answer
step_failed = Stepped (step.Replied reply.WriteFault)

-- a call of one event, which leaves an entry of its own
abbrev pub told_at_once : State → ℕ → Request → Reply → List ℕ → State → Turn
told_at_once state seat request told choices after = turn_with (replied told) (entry.Did seat request (outcome_of told) ∷ []) choices after
