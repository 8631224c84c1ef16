-- Events and answers of a core as those of the machine, and what one call comes to.
use Rattle.std.specs.Prelude.{◌≡◌, ◌≢◌, ◌⊎◌, ℕ, ◌≤◌, List, [], ◌∷◌, ◌++◌, length, IfSome, Option, None}
use Rattle.std.specs.List.{AllByRecursion}
use Rattle.f2_format.specs.Geometry.{ImageGeometry}
use Rattle.f2_disk.specs.Contents.{Contents}
use Rattle.f2_model.specs.State.{State, initial}
use Rattle.f2_model.specs.Step as machine
use Rattle.f2_model.specs.declared.events.Answer.TheVariants as answers
use Rattle.f2_model.specs.declared.events.Event.TheVariants as events
use Rattle.f2_model.specs.declared.events.MountRefusal.TheVariants as refusals
use Rattle.f2_model.specs.Step.{IsSeat, HasRisen, calm, replied}
use Rattle.f2_model.specs.declared.events.Event.{Event}
use Rattle.f2_model.specs.declared.events.Event.TheVariants.{Begin, Go, Mount}
use Rattle.f2_model.specs.declared.events.Answer.{Answer}
use Rattle.f2_model.specs.declared.events.Answer.TheVariants.{Began, Stepped}
use Rattle.f2_model.specs.Run.{Happening, Happened, entries_of, choices_of}
use Rattle.f2_model.specs.declared.replies.Begun.TheVariants.{Going, Replied}
use Rattle.f2_model.specs.declared.replies.Plan.{Plan}
use Rattle.f2_model.specs.declared.replies.Reply.{Reply}
use Rattle.f2_model.specs.declared.replies.Reply.TheVariants.{Synced, WriteFault}
use Rattle.f2_model.specs.declared.replies.Step.TheVariants as step
use Rattle.f2_model.specs.declared.requests.Request.{Request}
use Rattle.f2_model.specs.declared.requests.Request.TheVariants.{Create, Write, Sync}
use Rattle.f2_image.specs.Meanings.{IsSafe}
use Rattle.f2_flat.specs.Flat.{limits_of}
use Rattle.f2_core.specs.Seen.{Seen, IsIn, new_image}

-- the calls that a core takes so far, from the seats that calls are made from
abbrev pub IsServed : Event → Type 0
IsServed (Begin seat (Create path)) = IsSeat seat
IsServed (Begin seat (Write path pieces)) = IsSeat seat
IsServed (Begin seat Sync) = IsSeat seat
IsServed Mount = Unit {0}
IsServed _ = ⊥

-- the answers that tell a fault of the disk
abbrev pub TellsFault : Answer → Type 0
TellsFault (answers.Began (Replied WriteFault)) = Unit {0}
TellsFault (answers.NotMounted refusals.ReadFailed) = Unit {0}
TellsFault (answers.NotMounted refusals.WriteFailed) = Unit {0}
TellsFault _ = ⊥

-- no call of the disk failed in an event, so that it can tell no fault
abbrev pub IsQuiet : Happening → Type 0
IsQuiet one = ¬ (HasRisen one.faults)

-- the events of a call in flight: its seat goes on, and the last event alone tells the reply; no call of the disk fails
pub record GoesOn (seat : ℕ) (told : Reply) (events : List Happening) : Type 0 where
  pub before : List Happening
  pub last : Happening
  pub whole : events ≡ before ++ last ∷ []
  pub own : AllByRecursion (λ one. one.event ≡ Go seat) events
  pub quiet : AllByRecursion IsQuiet events
  pub untold : AllByRecursion (λ one. (early : Reply) → one.turn.answer ≢ Stepped (step.Replied early)) before
  pub reply : last.turn.answer ≡ Stepped (step.Replied told)

-- one event that is over with its answer
pub record IsShort (event : Event) (told : Answer) (events : List Happening) : Type 0 where
  pub one : Happening
  pub whole : events ≡ one ∷ []
  pub begun : one.event ≡ event
  pub answered : one.turn.answer ≡ told
  pub quiet : IsQuiet one

-- a call that goes on after its beginning
pub record IsLongCall (seat : ℕ) (request : Request) (told : Reply) (events : List Happening) : Type 0 where
  pub first : Happening
  pub rest : List Happening
  pub whole : events ≡ first ∷ rest
  pub plan : Plan
  pub begun : first.event ≡ Begin seat request
  pub going : first.turn.answer ≡ Began (Going plan)
  pub quiet : IsQuiet first
  pub goes_on : GoesOn seat told rest

-- the events of a call from its beginning to its reply
abbrev pub IsCall : ℕ → Request → Reply → List Happening → Type 0
IsCall seat request told events = IsShort (Begin seat request) (replied told) events ⊎ IsLongCall seat request told events

-- a mount that found a tree, and its checkpoint, which is done: it ends as a checkpoint does whose flush was made
pub record IsMount (rows : ℕ) (events : List Happening) : Type 0 where
  pub first : Happening
  pub rest : List Happening
  pub whole : events ≡ first ∷ rest
  pub begun : first.event ≡ Mount
  pub found : first.turn.answer ≡ answers.Found rows
  pub quiet : IsQuiet first
  pub goes_on : GoesOn machine.MOUNT_SEAT Synced rest

-- The events that one call of a core stands for: a call runs to its reply, and a mount that finds a tree makes its
-- checkpoint; a call has a reply, and a mount an answer of its own.
abbrev pub StandsFor : Event → Answer → List Happening → Type 0
StandsFor (Begin seat request) (answers.Began (Replied told)) events = IsCall seat request told events
StandsFor Mount (answers.Found rows) events = IsMount rows events
StandsFor Mount answers.AlreadyMounted events = IsShort Mount answers.AlreadyMounted events
StandsFor Mount (answers.NotMounted refused) events = IsShort Mount (answers.NotMounted refused) events
StandsFor _ _ events = ⊥

-- the most entries that one call leaves
abbrev pub MOST_LEFT : ℕ
MOST_LEFT = 4

-- one call leads from a state to another by events of the machine
pub record LeadsTo (geom : ImageGeometry) (from : State) (event : Event) (told : Answer) (events : List Happening) (to : State) : Type 0 where
  pub happened : Happened (limits_of geom) calm from events to
  pub stands : StandsFor event told events
  pub few : length (entries_of events) ≤ MOST_LEFT

-- a core goes from a state to another, and its history by what the events leave; each image of its disk is one that may
-- remain
pub record GoesTo {D : Type 0} (old new : Seen D) (told : Option Contents) (events : List Happening) (to : State) : Type 0 where
  pub entries : new.history.entries ≡ old.history.entries ++ entries_of events
  pub choices : new.history.choices ≡ old.history.choices ++ choices_of events
  pub state : IsIn new.geometry told new.volume new.history to
  pub safe : IfSome told (λ lists. IsSafe lists to)

-- one call of a core that is in a state and meets no fault
pub record ComesTo {D : Type 0} (old new : Seen D) (told : Option Contents) (from : State) (event : Event) (answered : Answer) : Type 0 where
  pub events : List Happening
  pub to : State
  pub leads : LeadsTo old.geometry from event answered events to
  pub goes : GoesTo old new told events to

-- calls one after another lead from a state to another
abbrev pub LeadAll : ImageGeometry → State → List Event → List Answer → List Happening → State → Type 0
LeadAll geom from [] [] events to = (events ≡ []) × (from ≡ to)
LeadAll geom from [] (answer ∷ answers) events to = ⊥
LeadAll geom from (event ∷ rest) [] events to = ⊥
LeadAll geom from (event ∷ rest) (answer ∷ answers) events to =
    (some more : List Happening) × (mid : State) × LeadsTo geom from event answer some mid × LeadAll geom mid rest answers more to × (events ≡ some ++ more)

-- calls of a core one after another
pub record ComeTo {D : Type 0} (old new : Seen D) (told : Option Contents) (from : State) (calls : List Event) (answers : List Answer) : Type 0 where
  pub events : List Happening
  pub to : State
  pub leads : LeadAll old.geometry from calls answers events to
  pub goes : GoesTo old new told events to

-- some first calls came to some answers
pub record ComeToFirst {D : Type 0} (old new : Seen D) (told : Option Contents) (from : State) (calls : List Event) : Type 0 where
  pub first : List Event
  pub rest : List Event
  pub whole : calls ≡ first ++ rest
  pub answers : List Answer
  pub come : ComeTo old new told from first answers

-- a closed core on a disk, with an empty history, which is in the state before the first mount
pub record IsMade {D : Type 0} (geom : ImageGeometry) (told : Option Contents) (core : Seen D) : Type 0 where
  pub sizes : core.geometry ≡ geom
  pub closed : core.volume ≡ None
  pub state : IsIn geom told core.volume core.history (initial new_image)

-- a core lost power
pub record HasCrashed {D : Type 0} (old new : Seen D) (told : Option Contents) (from : State) : Type 0 where
  pub one : Happening
  pub event : one.event ≡ events.Crash
  pub quiet : IsQuiet one
  pub happened : Happened (limits_of old.geometry) calm from (one ∷ []) one.turn.after
  pub few : length (entries_of (one ∷ [])) ≤ MOST_LEFT
  pub closed : new.volume ≡ None
  pub goes : GoesTo old new told (one ∷ []) one.turn.after
