-- Who stands at the gate: the phase of each seat.
use Rattle.std.specs.Prelude.{◌≡◌, ◌≢◌, ℕ, ◌<◌, List, slice_index_or}
use Rattle.f2_gate.specs.declared.Phase.{Phase}
use Rattle.f2_gate.specs.declared.Phase.TheVariants.{Out, Exclusive}

-- the phase of a seat; whoever has no seat is out
abbrev pub phase_of : List Phase → ℕ → Phase
phase_of seats seat = slice_index_or seats seat Out

-- some seat is in this phase
abbrev pub AnySeatIn : List Phase → Phase → Type 0
AnySeatIn seats phase = (seat : ℕ) × (phase_of seats seat ≡ phase)

-- this is the seat with the least number among those in this phase
pub record IsLeastIn (seats : List Phase) (phase : Phase) (seat : ℕ) : Type 0 where
  pub there : phase_of seats seat ≡ phase
  pub least : (other : ℕ) → other < seat → phase_of seats other ≢ phase

-- while one seat has the gate to itself everybody else is out
abbrev pub ExcludesOthers : List Phase → Type 0
ExcludesOthers seats = (holder other : ℕ) → phase_of seats holder ≡ Exclusive → other ≢ holder → phase_of seats other ≡ Out
