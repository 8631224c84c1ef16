-- The events that a line makes of a seat's call.
use Rattle.std.specs.Prelude.{◌≡◌, ◌≢◌, ℕ, ◌+◌, Bool, true, false, not, if◌then◌else◌, List, [], ◌∷◌, ◌++◌}
use Rattle.std.specs.List.{AllByRecursion}
use Rattle.f2_model.specs.State.{State}
use Rattle.f2_model.specs.Step as machine
use Rattle.f2_model.specs.Step.{draws_next}
use Rattle.f2_model.specs.Run.{Happening}
use Rattle.f2_model.specs.declared.events.Event.{Event}
use Rattle.f2_model.specs.declared.events.Event.TheVariants as event
use Rattle.f2_model.specs.declared.events.Answer.{Answer}
use Rattle.f2_model.specs.declared.events.Answer.TheVariants as answers
use Rattle.f2_model.specs.declared.events.Answer.TheVariants.{Began, Stepped}
use Rattle.f2_model.specs.declared.requests.Request.{Request}
use Rattle.f2_model.specs.declared.replies.Reply.{Reply}
use Rattle.f2_model.specs.declared.replies.Reply.TheVariants as reply
use Rattle.f2_model.specs.declared.replies.Begun.TheVariants.{Replied, Going}
use Rattle.f2_model.specs.declared.replies.Plan.{Plan}
use Rattle.f2_model.specs.declared.replies.Step.{Step}
use Rattle.f2_model.specs.declared.replies.Step.TheVariants as step
use Rattle.f2_script.specs.Generator.{after, drawn, seat_of, call_of}

-- this event happened, with this answer
pub record Happens (event : Event) (answer : Answer) (one : Happening) : Type 0 where
  pub event_is : one.event ≡ event
  pub answered : one.turn.answer ≡ answer

-- it happened, and nothing else
pub record IsOne (event : Event) (answer : Answer) (events : List Happening) : Type 0 where
  pub one : Happening
  pub whole : events ≡ one ∷ []
  pub happens : Happens event answer one

-- the steps that drew a position of the node log, and no more
abbrev pub is_slot : Step → Bool
is_slot (step.Slot position) = true
is_slot _ = false

-- a line `go` goes on to the first step that tells more than a position
abbrev pub tells_more : Step → Bool
tells_more one = not (is_slot one)

-- the steps after which a seat has nothing in flight, or a call that has to wait
abbrev pub is_over : Step → Bool
is_over step.None = true
is_over (step.Again position) = true
is_over (step.Replied told) = true
is_over _ = false

-- an event carried a seat's call on, and a line doesn't stop at its step
pub record Passes (stops : Step → Bool) (seat : ℕ) (one : Happening) : Type 0 where
  pub early : Step
  pub happens : Happens (event.Go seat) (Stepped early) one
  pub goes_on : stops early ≡ false

-- a seat's call was carried on to the first step at which a line stops, and no further
pub record Goes (stops : Step → Bool) (seat : ℕ) (told : Step) (events : List Happening) : Type 0 where
  pub before : List Happening
  pub last : Happening
  pub whole : events ≡ before ++ last ∷ []
  pub passed : AllByRecursion (Passes stops seat) before
  pub happens : Happens (event.Go seat) (Stepped told) last
  pub stopped : stops told ≡ true

-- an event, and then a seat's call up to the step where it is over
pub record Then (first : Event) (answer : Answer) (seat : ℕ) (told : Step) (events : List Happening) : Type 0 where
  pub one : Happening
  pub rest : List Happening
  pub whole : events ≡ one ∷ rest
  pub happens : Happens first answer one
  pub goes : Goes is_over seat told rest

-- A call ran to its reply, at once or by the events of its seat, or to where it has to wait. Want of memory is no reply
-- that a line prints.
pub data IsCall (seat : ℕ) (request : Request) : Step → List Happening → Type 0 where
  at_once : {events : List Happening} (told : Reply) → told ≢ reply.Memory → IsOne (event.Begin seat request) (Began (Replied told)) events → IsCall seat request (step.Replied told) events
  in_flight : {events : List Happening} (told : Reply) (plan : Plan) → Then (event.Begin seat request) (Began (Going plan)) seat (step.Replied told) events → IsCall seat request (step.Replied told) events
  waiting : {events : List Happening} (position : ℕ) (plan : Plan) → Then (event.Begin seat request) (Began (Going plan)) seat (step.Again position) events → IsCall seat request (step.Again position) events

-- a seat's call drew a position of the node log where that was its next event in a state; elsewhere nothing happened
pub data Draws (state : State) (seat : ℕ) : Step → List Happening → Type 0 where
  drew : {events : List Happening} (position : ℕ) → draws_next state seat ≡ true → IsOne (event.Go seat) (Stepped (step.Slot position)) events → Draws state seat (step.Slot position) events
  stayed : draws_next state seat ≡ false → Draws state seat step.None []

-- whether the text of a reply begins with `ok`
abbrev pub is_ok : Reply → Bool
is_ok reply.Done = true
is_ok (reply.Bytes bytes) = true
is_ok (reply.Names names) = true
is_ok reply.Roll = true
is_ok (reply.Cp reason) = true
is_ok reply.Synced = true
is_ok _ = false

-- whether a call came to such a reply; one that has to wait didn't
abbrev pub is_fine : Step → Bool
is_fine (step.Replied told) = is_ok told
is_fine _ = false

-- so many calls that a generator gives from its start on: the number that it came to, how many replies begin with `ok`,
-- and the events of the calls
pub data Generates (start : ℕ) : ℕ → ℕ → ℕ → List Happening → Type 0 where
  none : Generates start 0 start 0 []
  one_more : {count x fine : ℕ} {events more : List Happening} (last : Step) → Generates start count x fine events → IsCall (seat_of (drawn (after x))) (call_of (drawn (after x))) last more → Generates start (count + 1) (after x) (fine + (if is_fine last then 1 else 0)) (events ++ more)

-- a mount found a tree with so many marked rows, and its checkpoint came to this
abbrev pub Mounts : ℕ → Reply → List Happening → Type 0
Mounts rows told events = Then event.Mount (answers.Found rows) machine.MOUNT_SEAT (step.Replied told) events

-- a checkpoint of the mount's seat, after which the volume is closed, came to this
abbrev pub Closes : Event → Plan → Reply → List Happening → Type 0
Closes begins plan told events = Then begins (Began (Going plan)) machine.MOUNT_SEAT (step.Replied told) events
