-- What each line prints, the events that it makes, and the state after it.
use Rattle.std.specs.Prelude.{◌≡◌, ◌≢◌, ℕ, ◌-◌, true, List, [], ◌∷◌, ◌++◌, codes, if◌then◌else◌, Option, Some, None}
use Rattle.f2_format.specs.Geometry.{ImageGeometry, node_third, data_third, nid_limit}
use Rattle.f2_model.specs.Tree.{Rows, root_alone}
use Rattle.f2_model.specs.State.{State, Meaning, initial}
use Rattle.f2_model.specs.Step.{Faults, HasRisen, is_up}
use Rattle.f2_model.specs.Run.{Happening, Happened}
use Rattle.f2_model.specs.declared.bounds.Limits.{Limits}
use Rattle.f2_model.specs.declared.modes.Format.TheVariants.{Two}
use Rattle.f2_model.specs.declared.events.Event.{Event}
use Rattle.f2_model.specs.declared.events.Event.TheVariants as event
use Rattle.f2_model.specs.declared.events.Answer.TheVariants.{Began, Ticked, AlreadyMounted, NotMounted, Crashed}
use Rattle.f2_model.specs.declared.events.MountRefusal.TheVariants.{ReadFailed, WriteFailed}
use Rattle.f2_model.specs.declared.replies.Reply.{Reply}
use Rattle.f2_model.specs.declared.replies.Reply.TheVariants as reply
use Rattle.f2_model.specs.declared.replies.Begun.{Begun}
use Rattle.f2_model.specs.declared.replies.Begun.TheVariants.{Replied}
use Rattle.f2_model.specs.declared.replies.Plan.{Plan}
use Rattle.f2_model.specs.declared.replies.Step.{Step}
use Rattle.f2_model.specs.declared.replies.Tick.{Tick}
use Rattle.f2_script.specs.declared.script.Line.{Line}
use Rattle.f2_script.specs.declared.script.Line.TheVariants as line
use Rattle.f2_script.specs.Replies.{reply_spelling}
use Rattle.f2_script.specs.Steps.{begun_spelling, step_spelling, tick_spelling, made_spelling, found_spelling, mounted_spelling, unmounted_spelling, counted_spelling}
use Rattle.f2_script.specs.Trees.{tree_spelling}
use Rattle.f2_play.specs.Parts.{Part}
use Rattle.f2_play.specs.Calls.{IsOne, Goes, IsCall, Draws, Generates, Mounts, Closes, tells_more, is_over}

-- a text as a line
abbrev pub ended : List ℕ → List ℕ
ended text = text ++ 10 ∷ []

-- the `ok` of a line that has nothing else to tell
abbrev pub ok_line : List ℕ
ok_line = ended (reply_spelling reply.Done)

-- the tree that calls see, of an open volume
abbrev pub live_where_up : State → Option Rows
live_where_up state = if is_up state.mode then Some state.live else None

-- what is printed of it
abbrev pub tree_shown : Option Rows → List ℕ
tree_shown None = ended (codes "closed")
tree_shown (Some tree) = tree_spelling tree

-- the beginning of a call, which may stay in flight; want of memory is no reply that a line prints
pub record SaysBegun (begins : Event) (text : List ℕ) (events : List Happening) : Type 0 where
  pub begun : Begun
  pub not_memory : begun ≢ Replied reply.Memory
  pub once : IsOne begins (Began begun) events
  pub said : text ≡ ended (begun_spelling begun)

-- a mount: it found a tree and made its checkpoint, or a write or a flush of that failed; the volume was open; or what it
-- read, or its flush, failed
pub data SaysMount (text : List ℕ) (events : List Happening) : Type 0 where
  found : (rows : ℕ) → Mounts rows reply.Synced events → text ≡ ended (found_spelling rows) → SaysMount text events
  broken_off : (rows : ℕ) → Mounts rows reply.WriteFault events → text ≡ ended (reply_spelling reply.WriteFault) → SaysMount text events
  already : IsOne event.Mount AlreadyMounted events → text ≡ ended mounted_spelling → SaysMount text events
  not_read : IsOne event.Mount (NotMounted ReadFailed) events → text ≡ ended (reply_spelling reply.ReadFault) → SaysMount text events
  not_flushed : IsOne event.Mount (NotMounted WriteFailed) events → text ≡ ended (reply_spelling reply.WriteFault) → SaysMount text events

-- an unmount: it made its checkpoint, or a write or a flush of that failed; or it was refused
pub data SaysUnmount (text : List ℕ) (events : List Happening) : Type 0 where
  closed : (plan : Plan) → Closes event.Unmount plan reply.Synced events → text ≡ ended unmounted_spelling → SaysUnmount text events
  broken_off : (plan : Plan) → Closes event.Unmount plan reply.WriteFault events → text ≡ ended (reply_spelling reply.WriteFault) → SaysUnmount text events
  refused : (told : Reply) → told ≢ reply.Memory → IsOne event.Unmount (Began (Replied told)) events → text ≡ ended (reply_spelling told) → SaysUnmount text events

-- the tree, or that the volume is closed, or that a read of the disk failed; nothing happens to the volume
pub data SaysTree (state : State) (faults : Faults) (text : List ℕ) : Type 0 where
  shown : text ≡ tree_shown (live_where_up state) → SaysTree state faults text
  not_read : HasRisen faults → is_up state.mode ≡ true → text ≡ ended (reply_spelling reply.ReadFault) → SaysTree state faults text

-- the calls of a generator, counted by their replies
pub record SaysGen (start count : ℕ) (text : List ℕ) (events : List Happening) : Type 0 where
  pub x : ℕ
  pub fine : ℕ
  pub made : Generates start count x fine events
  pub said : text ≡ ended (counted_spelling count fine (count - fine))

-- What a line prints of the events that it makes from a state on. A `mkfs` line stands first and nowhere else. A line that
-- is cut short by want of memory isn't among these: it prints nothing, and ends the run.
abbrev pub Says : State → Line → Faults → List ℕ → List Happening → Type 0
Says state line.Skipped faults text events = (events ≡ []) × (text ≡ [])
Says state (line.Mkfs blocks nat) faults text events = ⊥
Says state (line.Call seat request) faults text events = (told : Step) × IsCall seat request told events × (text ≡ ended (step_spelling told))
Says state (line.Begin seat request) faults text events = SaysBegun (event.Begin seat request) text events
Says state (line.Go seat) faults text events = (told : Step) × Goes tells_more seat told events × (text ≡ ended (step_spelling told))
Says state (line.Slot seat) faults text events = (told : Step) × Draws state seat told events × (text ≡ ended (step_spelling told))
Says state (line.End seat) faults text events = (told : Step) × Goes is_over seat told events × (text ≡ ended (step_spelling told))
Says state line.Tick faults text events = (told : Tick) × IsOne event.Tick (Ticked told) events × (text ≡ ended (tick_spelling told))
Says state (line.Crash pick) faults text events = IsOne event.Crash Crashed events × (text ≡ ok_line)
Says state (line.Fail kind n) faults text events = (events ≡ []) × (text ≡ ok_line)
Says state (line.Stop n) faults text events = (events ≡ []) × (text ≡ ok_line)
Says state line.Mount faults text events = SaysMount text events
Says state line.Unmount faults text events = SaysUnmount text events
Says state line.Tree faults text events = (events ≡ []) × SaysTree state faults text
Says state (line.Gen start count) faults text events = SaysGen start count text events

-- what one line comes to from a state: each of its events is a step of the machine
pub record PlaysLine (limits : Limits) (state : State) (line : Line) (part : Part) : Type 0 where
  pub happened : Happened limits part.faults state part.events part.after
  pub said : Says state line part.faults part.text part.events

-- what lines come to one after another, from a state to another
abbrev pub PlaysLines : Limits → State → List Line → List Part → State → Type 0
PlaysLines limits from [] [] to = from ≡ to
PlaysLines limits from [] (part ∷ parts) to = ⊥
PlaysLines limits from (line ∷ lines) [] to = ⊥
PlaysLines limits from (line ∷ lines) (part ∷ parts) to = PlaysLine limits from line part × PlaysLines limits part.after lines parts to

-- what an image of these sizes grants, where a file may have so many bytes
abbrev pub granted : ℕ → ImageGeometry → Limits
granted size geom = record { nodes = node_third geom; data_blocks = data_third geom; nids = nid_limit geom; size = size }

-- what a new image stands for: the root alone, by the first checkpoint, of the newer format
abbrev pub new_image : Meaning
new_image = record { base = root_alone; marks = []; format = Two; version = 1 }

-- what a `mkfs` line comes to: a new image of these sizes is mounted, with its checkpoint
pub record PlaysMkfs (limits : Limits) (geom : ImageGeometry) (part : Part) : Type 0 where
  pub happened : Happened limits part.faults (initial new_image) part.events part.after
  pub mounted : Mounts 0 reply.Synced part.events
  pub said : part.text ≡ ended (made_spelling (node_third geom) (data_third geom))
