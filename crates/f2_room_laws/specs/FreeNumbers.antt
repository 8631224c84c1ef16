-- Numbers for new rows.
use Rattle.std.specs.Prelude.{◌≡◌, ℕ, ◌+◌, ◌*◌, ◌≤◌, List}
use Rattle.f2_model.specs.State.{State, IsFreeIno, initial}
use Rattle.f2_model.specs.Step.{Faults}
use Rattle.f2_model.specs.Run.{IsRun}
use Rattle.f2_model.specs.declared.bounds.Limits.{Limits}
use Rattle.f2_model.specs.declared.histories.Entry.{Entry}
use Rattle.f2_model.specs.declared.modes.Format.{Format}
use Rattle.f2_model.specs.declared.modes.Mode.TheVariants.{Up}
use Rattle.f2_laws.specs.Room.{IsWithinLimits}
use Rattle.f2_room_laws.specs.ProperTrees.{HasRoomForRoot}
use Rattle.f2_room_laws.specs.Running.{just_made}
use Rattle.f2_room_laws.specs.Fitting.{IsFittingState}
use Rattle.f2_room_laws.specs.RoomForWrites.{IsRoomyState}

-- an image has three numbers for each node that it grants, beside those that no row gets
abbrev pub HasNumbersForNodes : Limits → Type 0
HasNumbersForNodes limits = 3 * limits.nodes + 4 ≤ limits.nids

-- the rows of the tree that calls see, those of the base and the files of the log are each no more than the nodes that are granted, in
-- each state of an open volume whose marks fit and whose writes do
abbrev pub OpenStatesAreWithinLimits : Type 0
OpenStatesAreWithinLimits = (limits : Limits) (state : State) → HasNumbersForNodes limits → IsFittingState limits state → IsRoomyState limits state → state.mode ≡ Up → IsWithinLimits limits state

-- so in every run of an image that was just made a new row finds a number while the volume is open, whether it finds a node or not
abbrev pub NumbersAreFree : Type 0
NumbersAreFree =
    (limits : Limits) (faults : Faults) (format : Format) (version : ℕ) (entries : List Entry) (choices : List ℕ) (state : State) →
    HasRoomForRoot limits →
    HasNumbersForNodes limits →
    IsRun limits faults (initial (just_made format version)) entries choices state →
    state.mode ≡ Up →
    (ino : ℕ) × IsFreeIno limits state ino
