-- What the beginning of a call comes to, in the words of what the call does to the tree.
use Rattle.std.specs.Prelude.{◌≡◌, ℕ, Bool, true, false, None, nat_le}
use Rattle.std.specs.FinMap as map
use Rattle.f2_model.specs.Tree.{IsGoodTree}
use Rattle.f2_model.specs.Call.{outcome}
use Rattle.f2_model.specs.State.{State}
use Rattle.f2_model.specs.Step.{Faults, Turn, Step, MOST_ENTRIES, is_up, barring_seat, freezing, replied}
use Rattle.f2_model.specs.declared.events.Event.TheVariants.{Begin}
use Rattle.f2_model.specs.declared.bounds.Limits.{Limits}
use Rattle.f2_model.specs.declared.requests.Request.{Request}
use Rattle.f2_model.specs.declared.requests.Request.TheVariants.{Fsync, Sync}
use Rattle.f2_laws.specs.Choice.{IsFaultless}

-- whether a call is over in the event in which it begins, whatever the state
abbrev pub is_at_once : Request → Bool
is_at_once (Fsync path) = false
is_at_once Sync = false
is_at_once _ = true

-- nothing but the tree keeps a call from taking effect: the volume is open, the history has room, and no seat stands in the way
pub record IsServed (state : State) (seat : ℕ) (request : Request) : Type 0 where
  pub up : is_up state.mode ≡ true
  pub spare : nat_le MOST_ENTRIES state.entries ≡ false
  pub free : barring_seat state seat ≡ None
  pub thawed : freezing state request ≡ None

-- what an event came to is the outcome of a call on the tree: its reply is told, and its tree is the one that calls see from then on
pub record HasOutcome (limits : Limits) (state : State) (request : Request) (ino : ℕ) (turn : Turn) : Type 0 where
  pub told : turn.answer ≡ replied (outcome limits state.live request ino).0
  pub live : turn.after.live ≡ (outcome limits state.live request ino).1

-- where nothing else keeps it off, a call that is over at once has its outcome on the tree, at an ino that no row has
abbrev pub CallsHaveTheirOutcomes : Type 0
CallsHaveTheirOutcomes =
    (limits : Limits) (faults : Faults) (state : State) (seat : ℕ) (request : Request) (turn : Turn) →
    Step limits faults state (Begin seat request) turn →
    IsFaultless turn →
    is_at_once request ≡ true →
    IsServed state seat request →
    IsGoodTree limits.size state.live →
    map.get state.live limits.nids ≡ None →
    (ino : ℕ) × (map.get state.live ino ≡ None) × HasOutcome limits state request ino turn
