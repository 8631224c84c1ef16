-- How one event leads on from each state that a volume may be in.
use Rattle.std.specs.Prelude.{◌≡◌, ◌≤◌, Option}
use Rattle.f2_disk.specs.Contents.{Contents}
use Rattle.f2_disk.specs.Meter.{Meter}
use Rattle.f2_image_laws.specs.Rolled.{image_limits}
use Rattle.f2_model.specs.History.{Account}
use Rattle.f2_model.specs.Machine.{Advances}
use Rattle.f2_model.specs.State.{State}
use Rattle.f2_model.specs.Step.{Faults}
use Rattle.f2_model.specs.declared.events.Answer.{Answer}
use Rattle.f2_model.specs.declared.events.Event.{Event}
use Rattle.f2_state.specs.Seen.{Seen}
use Rattle.f2_state.specs.Standing.{StandsIn}

-- the account of a volume whose history began in a state
abbrev pub account_of : {D : Type 0} → State → Seen D → Account
account_of start volume = record { start = start; entries = volume.history.entries; choices = volume.history.choices }

-- a disk's counts of faults before and after an event
abbrev pub faults_between : Meter → Meter → Faults
faults_between before after = record { before = before.faults; after = after.faults }

-- from a state in which a volume stood an event was a step of the machine with this answer; the history goes on by what the step left,
-- and the volume stands in the state after it
abbrev pub AdvancesFrom : {D : Type 0} → (D → Option Contents) → (D → Meter) → Seen D → Seen D → Event → Answer → State → State → Type 0
AdvancesFrom contents meter old new event answer start from =
    Advances (image_limits old.geometry) (faults_between (meter old.disk) (meter new.disk)) from (StandsIn (contents new.disk) new) (account_of start old) (account_of start new) event answer

-- So it is from each state in which the volume stood. `contents` and `meter` are what its disk shows.
pub record Follows {D : Type 0} (contents : D → Option Contents) (meter : D → Meter) (old new : Seen D) (event : Event) (answer : Answer) : Type 0 where
  pub sizes : new.geometry ≡ old.geometry
  pub counted : (meter old.disk).faults ≤ (meter new.disk).faults
  pub advances : (start from : State) → StandsIn (contents old.disk) old from → AdvancesFrom contents meter old new event answer start from
