-- The status that the bytes of a script are due, which comes unless a fault or want of memory does.
use Rattle.std.specs.Prelude.{◌≡◌, ◌⊎◌, ℕ, List}
use Rattle.f2_layout.specs.declared.geometry.Limit.{Limit}
use Rattle.f2_script.specs.declared.script.Line.{Line}
use Rattle.f2_script.specs.declared.script.Grammar.{Grammar}
use Rattle.f2_script.specs.Grammar.{IsTooLong, Spells, IsFirstFault}
use Rattle.f2_recover.specs.declared.faults.BadImage as image
use Rattle.f2_play.specs.declared.status.Status.{Status}
use Rattle.f2_play.specs.declared.status.Status.TheVariants.{Done, Usage, TooLong, Script, SourceFault, SinkFault, DiskFault, BadImage, Geometry, Memory}
use Rattle.f2_play.specs.Scripts.{BreaksLimit}

-- the statuses that no bytes are due
abbrev pub IsFree : Status → Type 0
IsFree SourceFault = Unit {0}
IsFree SinkFault = Unit {0}
IsFree Memory = Unit {0}
IsFree status = ⊥

-- a run that is due one status ends with it, or with a free one
abbrev pub EndsAs : Status → Status → Type 0
EndsAs due status = (status ≡ due) ⊎ IsFree status

-- the bytes are lines that ask for an image within the limits, or one that breaks this limit
pub record IsSound (grammar : Grammar) (bytes : List ℕ) : Type 0 where
  pub fits : ¬ (IsTooLong bytes)
  pub lines : List Line
  pub spelled : Spells grammar bytes lines
  pub within : (limit : Limit) (value : ℕ) → ¬ (BreaksLimit lines limit value)

pub record IsBroken (grammar : Grammar) (bytes : List ℕ) (limit : Limit) (value : ℕ) : Type 0 where
  pub fits : ¬ (IsTooLong bytes)
  pub lines : List Line
  pub spelled : Spells grammar bytes lines
  pub broken : BreaksLimit lines limit value

-- the bytes have a first line outside the grammar, and aren't too long
pub record IsFaulty (grammar : Grammar) (bytes : List ℕ) (line : ℕ) : Type 0 where
  pub fits : ¬ (IsTooLong bytes)
  pub first : IsFirstFault grammar bytes line

-- each status comes where it is due, and only there
pub record IsDue (grammar : Grammar) (bytes : List ℕ) (status : Status) : Type 0 where
  pub done : IsSound grammar bytes → EndsAs Done status
  pub too_long : IsTooLong bytes → EndsAs TooLong status
  pub faulty : (line : ℕ) → IsFaulty grammar bytes line → EndsAs (Script line) status
  pub broken : (limit : Limit) (value : ℕ) → IsBroken grammar bytes limit value → EndsAs (Geometry limit value) status
  pub only_done : status ≡ Done → IsSound grammar bytes
  pub only_too_long : status ≡ TooLong → IsTooLong bytes
  pub only_faulty : (line : ℕ) → status ≡ Script line → IsFaulty grammar bytes line
  pub only_broken : (limit : Limit) (value : ℕ) → status ≡ Geometry limit value → IsBroken grammar bytes limit value
  pub never : ¬ (status ≡ Usage)
  pub never_disk : ¬ (status ≡ DiskFault)
  pub never_image : (bad : image.BadImage) → ¬ (status ≡ BadImage bad)
