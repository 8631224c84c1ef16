-- What `replay` writes of a script, by the status that it ends with.
use Rattle.std.specs.Prelude.{◌≡◌, ℕ, List, [], Option, None}
use Rattle.std.specs.Io.KnownBytes.{Appends}
use Rattle.f2_disk.specs.Contents.{Contents}
use Rattle.f2_disk.specs.Meter.{Meter}
use Rattle.f2_play.specs.declared.status.Status.{Status}
use Rattle.f2_play.specs.declared.status.Status.TheVariants.{Usage, SourceFault, SinkFault, Memory}
use Rattle.f2_play.specs.Endings.{IsSilent, last_line}
use Rattle.f2_play.specs.Faults.{IsCounting}
use Rattle.f2_play.specs.Scripts.{Tells}
use Rattle.f2_top.specs.Left.{Leaves, replay_scope}
use Rattle.f2_top.specs.Reads.{TakesScript, TakesSome}
use Rattle.f2_top.specs.Streams.{IsCutAfter, PutsSome}

-- A bench's count of faults isn't at the end of its type. There it stands still, and a call that failed can't be told
-- from one that didn't.
abbrev pub CountsFaults : Meter → Type 0
CountsFaults meter = IsCounting meter.faults

-- what went out is the beginning of what a run that ends with another status tells
pub record IsCutOff (bytes out : List ℕ) : Type 0 where
  pub status : Status
  pub text : List ℕ
  pub first : Tells replay_scope (Leaves None) bytes status text
  pub cut : IsCutAfter out text

-- what `replay` wrote of a script that it read, by its status
abbrev pub Writes : Option Contents → List ℕ → Status → List ℕ → Type 0
Writes told bytes SinkFault out = IsCutOff bytes out
Writes told bytes status out = Tells replay_scope (Leaves told) bytes status out

-- the statuses of a script that wasn't read
abbrev pub IsUnread : Status → Type 0
IsUnread SourceFault = Unit {0}
IsUnread Memory = Unit {0}
IsUnread status = ⊥

-- a script was read and this is what was written; or it wasn't read, and nothing was written
pub data Replays (told : Option Contents) (old new : Option (List ℕ)) (status : Status) (out : List ℕ) : Type 0 where
  read : (bytes : List ℕ) → TakesScript old new bytes → Writes told bytes status out → Replays told old new status out
  unread : TakesSome old new → IsUnread status → out ≡ [] → Replays told old new status out

-- what `replay` did to its source and its sink, and what it left on its disk
pub record IsReplayed (told : Option Contents) (old new then now : Option (List ℕ)) (status : Status) : Type 0 where
  pub out : List ℕ
  pub written : Appends then now out
  pub replayed : Replays told old new status out

-- the last line of a status went out, or the sink failed in it
pub data Finishes (then now : Option (List ℕ)) (status ending : Status) : Type 0 where
  said_whole : ending ≡ status → Appends then now (last_line status) → Finishes then now status ending
  broken_off : ending ≡ SinkFault → ¬ (IsSilent status) → PutsSome then now (last_line status) → Finishes then now status ending

-- what is said of words that are no command
pub data IsRefused (then now : Option (List ℕ)) (status : Status) : Type 0 where
  said : status ≡ Usage → Appends then now (last_line Usage) → IsRefused then now status
  cut_off : status ≡ SinkFault → PutsSome then now (last_line Usage) → IsRefused then now status
