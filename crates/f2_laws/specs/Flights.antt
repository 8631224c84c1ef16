-- Calls in flight, and the files in fsync.
use Rattle.std.specs.Prelude.{◌≡◌, ℕ, Some}
use Rattle.std.specs.Ordering.{nat_cmp}
use Rattle.std.specs.FinMap as map
use Rattle.f2_model.specs.State.{Progress, Flight, InFsync}

-- calls in flight by their seats
abbrev pub Flights : Type 0
Flights = map.FinMap nat_cmp Flight

-- an fsync of a file is in flight
abbrev pub IsFrozen : Flights → ℕ → Type 0
IsFrozen flights ino = (seat : ℕ) × ((progress : Progress) × (map.get flights seat ≡ Some (InFsync ino progress)))
