-- A mount, an unmount, an upgrade, and a loss of power (f2fs_recover_fsync_data of fs/f2fs/recovery.c, f2fs_put_super of super.c).
use Rattle.std.specs.Prelude.{◌≡◌, ℕ, ◌≤◌, not, ◌⊎◌, [], ◌∷◌, length}
use Rattle.std.specs.Bool.{MatchBool}
use Rattle.std.specs.FinMap as map
use Rattle.f2_model.specs.State.{State, Meaning, InCheck, rolled, base_up_to, pending_with, number_of}
use Rattle.f2_model.specs.Turns.{Faults, HasRisen, Turn, MOUNT_SEAT, NO_SEAT, WhereSome, turn_with, unchanged, closed_by_fault, is_up, is_shut, replied}
use Rattle.f2_model.specs.Begins.{least_in_flight}
use Rattle.f2_model.specs.Goes.{with_base}
use Rattle.f2_model.specs.declared.modes.Format.{Format}
use Rattle.f2_model.specs.declared.modes.Format.TheVariants.{Two}
use Rattle.f2_model.specs.declared.modes.Mode.TheVariants.{Shut, Mounting}
use Rattle.f2_model.specs.declared.replies.Plan.TheVariants as plan
use Rattle.f2_model.specs.declared.replies.Begun.TheVariants.{Going}
use Rattle.f2_model.specs.declared.replies.Reply.TheVariants as reply
use Rattle.f2_model.specs.declared.events.Answer.TheVariants.{Began, Found, AlreadyMounted, NotMounted, Crashed}
use Rattle.f2_model.specs.declared.events.MountRefusal.{MountRefusal}
use Rattle.f2_model.specs.declared.events.MountRefusal.TheVariants.{ReadFailed, WriteFailed, BadImage, NoMemory}
use Rattle.f2_model.specs.declared.histories.CallKind.{CallKind}
use Rattle.f2_model.specs.declared.histories.CallKind.TheVariants as kind
use Rattle.f2_model.specs.declared.histories.Entry.TheVariants as entry

-- the state after a mount found what an image was left as: all is as a crash left it, and the mount's own checkpoint begins
abbrev pub mounting : State → Meaning → State
mounting state meaning =
    let after = with_base state meaning.base meaning.format meaning.version Mounting in
    record after {
      live = rolled meaning.base meaning.marks;
      marks = meaning.marks;
      acknowledged = length meaning.marks;
      flights = map.insert map.empty MOUNT_SEAT (InCheck plan.Sync);
    }

-- a mount finds it; whether a pending tree was found is a choice, and so is the format of the checkpoint that begins
abbrev pub found : State → Meaning → ℕ → Turn
found state meaning choice =
    turn_with (Found (length meaning.marks)) (entry.Mounted (length meaning.marks) ∷ entry.CpBegin MOUNT_SEAT plan.Sync ∷ []) (choice ∷ number_of meaning.format ∷ [])
    (mounting state meaning)

-- the marks up to a place, from the last acknowledged on
abbrev pub FindsMarks : State → Turn → Type 0
FindsMarks state turn =
    (k : ℕ) × (state.acknowledged ≤ k) × (k ≤ length state.marks) × (turn ≡ found state (base_up_to state k) 0)

-- the tree of a checkpoint whose tail was written
abbrev pub FindsPending : State → Turn → Type 0
FindsPending state turn = WhereSome state.pending (λ tree. turn ≡ found state (pending_with state tree) 1) ⊥

-- a mount meets a fault of the disk
abbrev pub MountFails : Faults → State → MountRefusal → CallKind → Turn → Type 0
MountFails faults state refused call turn =
    HasRisen faults × (turn ≡ closed_by_fault faults NO_SEAT call (NotMounted refused) (unchanged state (NotMounted refused)))

-- a mount begins
abbrev pub StepMount : Faults → State → Turn → Type 0
StepMount faults state turn =
    MatchBool (not (is_shut state.mode)) (turn ≡ unchanged state AlreadyMounted)
    (FindsMarks state turn
    ⊎ FindsPending state turn
    ⊎ MountFails faults state ReadFailed kind.Read turn
    ⊎ MountFails faults state WriteFailed kind.Flush turn
    ⊎ (turn ≡ unchanged state (NotMounted BadImage))
    ⊎ (turn ≡ unchanged state (NotMounted NoMemory)))

-- the mount's seat begins a checkpoint of a format, after which the volume is closed
abbrev pub closing : State → Format → Turn
closing state format =
    turn_with (Began (Going plan.Sync)) (entry.CpBegin MOUNT_SEAT plan.Sync ∷ []) (number_of format ∷ [])
    (record state { flights = map.insert state.flights MOUNT_SEAT (InCheck plan.Sync); next_format = format })

-- an unmount, or an upgrade, begins where the volume is open and nobody is in flight
abbrev pub StepClose : State → Format → Turn → Type 0
StepClose state format turn =
    MatchBool (not (is_up state.mode)) (turn ≡ unchanged state (replied reply.Closed)) (
    WhereSome (least_in_flight state) (λ by. turn ≡ unchanged state (replied (reply.Busy by)))
    (turn ≡ closing state format))

-- an unmount keeps the format, and an upgrade sets the newer one
abbrev pub StepUnmount : State → Turn → Type 0
StepUnmount state turn = StepClose state state.format turn

abbrev pub StepUpgrade : State → Turn → Type 0
StepUpgrade state turn = StepClose state Two turn

-- power is lost
abbrev pub crashed : State → Turn
crashed state = turn_with Crashed (entry.Crash ∷ []) [] (record state { mode = Shut; flights = map.empty })
