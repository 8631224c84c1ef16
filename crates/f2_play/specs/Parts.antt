-- What lines come to.
use Rattle.std.specs.Prelude.{◌≡◌, ℕ, List, [], ◌∷◌}
use Rattle.std.specs.List.{flat_map}
use Rattle.f2_model.specs.State.{State}
use Rattle.f2_model.specs.Step.{Faults, calm}
use Rattle.f2_model.specs.Run.{Happening}

-- what one line came to: what it printed, the events that it made, the disk's count of faults before and after it, and
-- the state after it
pub record Part : Type 0 where
  pub text : List ℕ
  pub events : List Happening
  pub faults : Faults
  pub after : State

-- no call of the disk failed in a line, nor before it
abbrev pub IsCalm : Part → Type 0
IsCalm part = part.faults ≡ calm

-- the texts of parts in order, and their events
abbrev pub text_of : List Part → List ℕ
text_of parts = flat_map (λ part. part.text) parts

abbrev pub events_of : List Part → List Happening
events_of parts = flat_map (λ part. part.events) parts

-- the state after parts, of which the first began in a state
abbrev pub state_after : State → List Part → State
state_after from [] = from
state_after from (part ∷ parts) = state_after part.after parts
