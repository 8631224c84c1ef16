-- What was counted, as a state goes on.
use Rattle.std.specs.Prelude.{◌≡◌, ℕ, Some, map as map_list}
use Rattle.std.specs.FinMap as map
use Rattle.f2_held.specs.Recovered.{IsOneOf}
use Rattle.f2_laws.specs.Flights.{IsFrozen}
use Rattle.f2_model.specs.Goes.{with_progress}
use Rattle.f2_model.specs.State.{State, Progress, InFsync}
use Rattle.f2_model.specs.Turns.{without_call}
use Rattle.f2_model.specs.declared.rows.Row.{Row}
use Rattle.f2_since.specs.Counted.{Counted, IsSince, IsRunning}

-- no file is in fsync, and rows stand at their inos
abbrev pub IsAtRest : State → Type 0
IsAtRest state = ((ino : ℕ) → IsFrozen state.flights ino → ⊥) × ((ino : ℕ) (row : Row) → map.get state.live ino ≡ Some row → row.ino ≡ ino)

-- a call of a seat is an fsync of a file
abbrev pub Fsyncs : State → ℕ → ℕ → Type 0
Fsyncs state seat ino = (progress : Progress) × (map.get state.flights seat ≡ Some (InFsync ino progress))

-- what isn't counted may change
abbrev pub OthersDontCount : Type 0
OthersDontCount =
    (since : Counted) (state after : State) →
    IsSince since state →
    after.base ≡ state.base →
    after.marks ≡ state.marks →
    after.live ≡ state.live →
    after.flights ≡ state.flights →
    after.node_writes ≡ state.node_writes →
    after.data_writes ≡ state.data_writes →
    IsSince since after

-- an fsync goes on to another part, and nothing else is counted
abbrev pub FsyncsGoOn : Type 0
FsyncsGoOn =
    (since : Counted) (state : State) (seat ino : ℕ) (next : Progress) →
    IsSince since state →
    IsRunning state →
    Fsyncs state seat ino →
    IsSince since (with_progress state seat ino next)

-- an fsync ends whose mark has the file's row, and nothing else is counted
abbrev pub FsyncsEnd : Type 0
FsyncsEnd =
    (since : Counted) (state : State) (seat ino : ℕ) (row : Row) →
    IsSince since state →
    IsRunning state →
    Fsyncs state seat ino →
    map.get state.live ino ≡ Some row →
    IsOneOf row (map_list (λ mark. mark.row) state.marks) →
    IsSince since (without_call state seat)
