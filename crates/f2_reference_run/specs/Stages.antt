-- A plain machine on which lines are played, and what it is told to choose.
use Rattle.std.specs.Prelude.{◌≡◌, ℕ, Bool, true, false, if◌then◌else◌, ◌==◌, List, [], ◌∷◌}
use Rattle.f2_format.specs.Geometry.{ImageGeometry}
use Rattle.f2_model.specs.State.{State}
use Rattle.f2_model.specs.Step.{calm}
use Rattle.f2_model.specs.Run.{Happening}
use Rattle.f2_model.specs.declared.events.Event.{Event}
use Rattle.f2_model.specs.declared.events.Answer.{Answer}
use Rattle.f2_model.specs.declared.events.Answer.TheVariants.{Found, Stepped}
use Rattle.f2_model.specs.declared.replies.Reply.{Reply}
use Rattle.f2_model.specs.declared.replies.Reply.TheVariants.{Roll, Cp, Synced}
use Rattle.f2_model.specs.declared.replies.Step as step_type
use Rattle.f2_model.specs.declared.replies.Step.TheVariants.{Flushed, Replied}
use Rattle.f2_spans.specs.Spans.{MOST_SIZE}
use Rattle.f2_reference_state.specs.Seen.{Seen}
use Rattle.f2_reference.specs.Choosing.{ComesTo}
use Rattle.f2_reference.specs.Sound.{made_by}
use Rattle.f2_reference.specs.Written.{written_place}
use Rattle.f2_reference.specs.declared.choices.Choices.{Choices}
use Rattle.f2_reference.specs.declared.choices.MarksKept.TheVariants.{Fewest, UpTo}
use Rattle.f2_script.specs.declared.script.Line.{Line}
use Rattle.f2_script.specs.declared.script.Line.TheVariants.{Crash, Mount}
use Rattle.f2_play.specs.Lines.{granted}

-- A machine on which lines are played: what it is told to choose, whether a crash since the last mount settled that, and the
-- place up to which its last flush left the marks.
pub record Stage : Type 0 where
  pub seen : Seen
  pub choices : Choices
  pub is_settled : Bool
  pub flushed : ℕ

-- what a machine is told before the first crash: the acknowledged marks alone, and no pending tree
abbrev pub least : Choices
least = record { marks = Fewest; pending = false; blocks = 0 }

-- what the last flush left: the marks up to a place, and no pending tree, since the flush after a tail ends its checkpoint
abbrev pub oldest : ℕ → Choices
oldest place = record { marks = UpTo place; pending = false; blocks = 0 }

-- all that was written: each mark with everything before it in the node log, and a pending tree
abbrev pub whole : State → Choices
whole state = record { marks = UpTo (written_place state); pending = true; blocks = 0 }

-- the machine that a `mkfs` line makes; a file may have all the pages that its nodes can name
abbrev pub first_stage : ImageGeometry → Stage
first_stage geom = record { seen = made_by (granted MOST_SIZE geom); choices = least; is_settled = false; flushed = 0 }

-- whether the end of a call is a flush: the last one of an fsync, or of a checkpoint
abbrev pub ends_by_flush : Reply → Bool
ends_by_flush Roll = true
ends_by_flush (Cp reason) = true
ends_by_flush Synced = true
ends_by_flush _ = false

-- Whether a step is a flush: an fsync's first one, or one that ends a call. The first flush of a checkpoint is none of these: this
-- machine goes to the tail at once, and no fsync is in flight then, so that each mark is acknowledged.
abbrev pub is_flush : step_type.Step → Bool
is_flush Flushed = true
is_flush (Replied told) = ends_by_flush told
is_flush _ = false

-- The place up to which the last flush left the marks, once an event came to an answer and a state: a flush leaves each mark that
-- was written with everything before it, and after a mount there is none yet.
abbrev pub flushed_by : Answer → ℕ → State → ℕ
flushed_by (Found rows) place state = 0
flushed_by (Stepped one) place state = if is_flush one then written_place state else place
flushed_by _ place state = place

-- one event came to this answer, by the choices
pub record Comes (one : Event) (answer : Answer) (from to : Stage) : Type 0 where
  pub came : ComesTo from.choices from.seen to.seen one answer
  pub choices : to.choices ≡ from.choices
  pub is_settled : to.is_settled ≡ from.is_settled
  pub flushed : to.flushed ≡ flushed_by answer from.flushed to.seen.state

-- this is the event that happened, and no disk failed in it
pub record Makes (one : Happening) (from to : Stage) : Type 0 where
  pub comes : Comes one.event one.turn.answer from to
  pub turn : comes.came.turn ≡ one.turn
  pub no_fault : one.faults ≡ calm

-- these are the events that happened one after another
abbrev pub MakesAll : List Happening → Stage → Stage → Type 0
MakesAll [] from to = to ≡ from
MakesAll (one ∷ rest) from to = (mid : Stage) × Makes one from mid × MakesAll rest mid to

-- What the next mount finds after a crash: what the first crash since the last mount picked, which is what the last flush left, or
-- all that was written.
abbrev pub picked : ℕ → Stage → Choices
picked pick stage = if stage.is_settled then stage.choices else (if pick == 0 then oldest stage.flushed else whole stage.seen.state)

-- whether events begin with a mount that found a tree
abbrev pub is_found : Answer → Bool
is_found (Found rows) = true
is_found _ = false

abbrev pub finds : List Happening → Bool
finds [] = false
finds (one ∷ rest) = is_found one.turn.answer

-- The stage after a line, from the one before it, its events, and the one after these: a crash settles what the next mount
-- finds, and a mount that finds it opens that again.
abbrev pub settled_by : Line → Stage → List Happening → Stage → Stage
settled_by (Crash pick) from events to = record to { choices = picked pick from; is_settled = true }
settled_by Mount from events to = if finds events then record to { is_settled = false } else to
settled_by _ from events to = to
