-- The beginning of a call: which test decides it, and what it comes to.
use Rattle.std.specs.Prelude.{◌≡◌, ℕ, Bool, true, false, not, nat_le, if◌then◌else◌, ◌==◌, ◌⊎◌, List, [], ◌∷◌}
use Rattle.std.specs.Prelude.{Option, Some, None, Result, Ok, Err}
use Rattle.std.specs.Bool.{MatchBool}
use Rattle.std.specs.List.{filter}
use Rattle.std.specs.FinMap as map
use Rattle.f2_model.specs.Tree.{walk}
use Rattle.f2_model.specs.Call.{Limits, refusal, effect, answer, space_refusal}
use Rattle.f2_model.specs.State.{State, Flight, InFsync, InCheck, IsFreeIno, fresh_progress, marked_dirty, number_of}
use Rattle.f2_model.specs.Fallback.{fallback}
use Rattle.f2_model.specs.Turns.{Faults, HasRisen, Turn, MOST_ENTRIES, WhereSome, turn_with, unchanged, told_at_once, is_up, replied}
use Rattle.f2_model.specs.declared.rows.Row.{Row}
use Rattle.f2_model.specs.declared.requests.Request.{Request}
use Rattle.f2_model.specs.declared.requests.Request.TheVariants.{Create, Mkdir, Write, Truncate, Unlink, Rename, Fsync, Sync}
use Rattle.f2_model.specs.declared.replies.Plan.{Plan}
use Rattle.f2_model.specs.declared.replies.Plan.TheVariants as plan
use Rattle.f2_model.specs.declared.replies.Begun.TheVariants.{Going}
use Rattle.f2_model.specs.declared.replies.Reply.{Reply}
use Rattle.f2_model.specs.declared.replies.Reply.TheVariants as reply
use Rattle.f2_model.specs.declared.replies.Outcome.TheVariants as outcome
use Rattle.f2_model.specs.declared.events.Answer.TheVariants.{Began}
use Rattle.f2_model.specs.declared.histories.CallKind.TheVariants as kind
use Rattle.f2_model.specs.declared.histories.Entry.TheVariants as entry

-- the least seat with a call in flight
abbrev pub first_key : List (ℕ × Flight) → Option ℕ
first_key [] = None
first_key (one ∷ rest) = Some one.0

abbrev pub least_in_flight : State → Option ℕ
least_in_flight state = first_key (map.entries state.flights)

abbrev pub is_check : Flight → Bool
is_check (InFsync ino progress) = false
is_check (InCheck plan) = true

abbrev pub freezes : ℕ → Flight → Bool
freezes ino (InFsync other progress) = other == ino
freezes ino (InCheck plan) = false

-- the seat that holds the exclusive gate, and the one that has a file in fsync
abbrev pub checking_seat : State → Option ℕ
checking_seat state = first_key (filter (λ one. is_check one.1) (map.entries state.flights))

abbrev pub freezing_seat : State → ℕ → Option ℕ
freezing_seat state ino = first_key (filter (λ one. freezes ino one.1) (map.entries state.flights))

-- the seat that keeps a seat from beginning a call: itself, where it has one in flight, else the one that holds the exclusive gate
abbrev pub barring_seat : State → ℕ → Option ℕ
barring_seat state seat = if map.contains_key state.flights seat then Some seat else checking_seat state

-- the seat that has the row at the end of a walk in fsync
abbrev pub freezing_walked : State → Result Row Reply → Option ℕ
freezing_walked state (Ok row) = freezing_seat state row.ino
freezing_walked state (Err refusal) = None

-- the seat whose fsync keeps a call from changing, moving, removing or fsyncing its file
abbrev pub freezing : State → Request → Option ℕ
freezing state (Write path pieces) = freezing_walked state (walk state.live path)
freezing state (Truncate path size) = freezing_walked state (walk state.live path)
freezing state (Unlink path) = freezing_walked state (walk state.live path)
freezing state (Rename from to) = freezing_walked state (walk state.live from)
freezing state (Fsync path) = freezing_walked state (walk state.live path)
freezing state _ = None

-- whether a call adds a row
abbrev pub adds_row : Request → Bool
adds_row (Create path) = true
adds_row (Mkdir path) = true
adds_row _ = false

-- the state after a call of one event took effect, where a new row gets the ino
abbrev pub called : State → Request → ℕ → State
called state request ino = record (marked_dirty state request (effect state.live request ino)) { live = effect state.live request ino }

-- a call of one event takes effect; the ino of a new row is any free one, and it is the choice that is told
abbrev pub TakesEffect : Limits → State → ℕ → Request → Turn → Type 0
TakesEffect limits state seat request turn =
    MatchBool (adds_row request)
    ((ino : ℕ) × IsFreeIno limits state ino × (turn ≡ told_at_once state seat request (answer state.live request) (ino ∷ []) (called state request ino)))
    (turn ≡ told_at_once state seat request (answer state.live request) [] (called state request 0))

-- a read failed in a call of one event
abbrev pub ReadFails : Faults → State → ℕ → Request → Turn → Type 0
ReadFails faults state seat request turn =
    HasRisen faults × (turn ≡ turn_with (replied reply.ReadFault) (entry.Did seat request outcome.ReadFault ∷ entry.Fault seat kind.Read faults.after ∷ []) [] state)

-- the state in which a seat makes a checkpoint, which keeps the base's format
abbrev pub checking : State → ℕ → Plan → State
checking state seat plan = record state { flights = map.insert state.flights seat (InCheck plan); next_format = state.format }

-- a checkpoint begins where nobody is in flight; its format is a choice that is told
abbrev pub BeginsCheck : State → ℕ → Request → Plan → Turn → Type 0
BeginsCheck state seat request plan turn =
    WhereSome (least_in_flight state) (λ by. turn ≡ unchanged state (replied (reply.Busy by)))
    (turn ≡ turn_with (Began (Going plan)) (entry.Begin seat request ∷ entry.CpBegin seat plan ∷ []) (number_of state.format ∷ []) (checking state seat plan))

-- an fsync of a row begins a checkpoint for a reason, or rolls forward
abbrev pub BeginsFsync : Limits → State → ℕ → Request → Result Row Reply → Turn → Type 0
BeginsFsync limits state seat request (Err refused) turn = turn ≡ told_at_once state seat request refused [] state
BeginsFsync limits state seat request (Ok row) turn =
    WhereSome (fallback limits state row) (λ reason. BeginsCheck state seat request (plan.Cp reason) turn)
    (turn ≡ turn_with (Began (Going plan.Roll)) (entry.Begin seat request ∷ []) []
    (record state { flights = map.insert state.flights seat (InFsync row.ino fresh_progress) }))

-- the call that is neither refused by its paths nor kept off by another seat's fsync
abbrev pub Serves : Limits → Faults → State → ℕ → Request → Turn → Type 0
Serves limits faults state seat (Fsync path) turn = BeginsFsync limits state seat (Fsync path) (walk state.live path) turn
Serves limits faults state seat Sync turn = BeginsCheck state seat Sync plan.Sync turn
Serves limits faults state seat request turn =
    WhereSome (space_refusal limits (effect state.live request limits.nids)) (λ refused. turn ≡ told_at_once state seat request refused [] state)
    (TakesEffect limits state seat request turn ⊎ ReadFails faults state seat request turn)

-- a call begins: the first test that holds decides
abbrev pub StepBegin : Limits → Faults → State → ℕ → Request → Turn → Type 0
StepBegin limits faults state seat request turn =
    MatchBool (not (is_up state.mode)) (turn ≡ unchanged state (replied reply.Closed)) (
    MatchBool (nat_le MOST_ENTRIES state.entries) (turn ≡ unchanged state (replied reply.Spent)) (
    WhereSome (barring_seat state seat) (λ by. turn ≡ unchanged state (replied (reply.Busy by))) (
    WhereSome (refusal limits state.live request) (λ refused. turn ≡ told_at_once state seat request refused [] state) (
    WhereSome (freezing state request) (λ by. turn ≡ unchanged state (replied (reply.Busy by)))
    (Serves limits faults state seat request turn)))))
