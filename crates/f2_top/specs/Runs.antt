-- What is written while the lines of a script are run, by the status that the run comes to.
use Rattle.std.specs.Prelude.{◌≡◌, ℕ, false, List, [], ◌∷◌, take, Option, None, IsSome}
use Rattle.std.specs.List.{AllByRecursion}
use Rattle.f2_format.specs.Geometry.{ImageGeometry}
use Rattle.f2_disk.specs.Contents.{Contents}
use Rattle.f2_disk.specs.Meter.{Meter}
use Rattle.f2_layout.specs.declared.geometry.Limit.{Limit}
use Rattle.f2_model.specs.declared.bounds.Limits.{Limits}
use Rattle.f2_model.specs.State.{State, initial}
use Rattle.f2_model.specs.Run.{Happening, Happened}
use Rattle.f2_model.specs.Step.{calm}
use Rattle.f2_model.specs.declared.events.Event.{Event}
use Rattle.f2_model.specs.declared.events.Event.TheVariants.{Begin}
use Rattle.f2_model.specs.declared.events.Answer.{Answer}
use Rattle.f2_model.specs.declared.replies.Reply.TheVariants.{Synced}
use Rattle.f2_flat.specs.Flat.{FILE_SIZE, limits_of}
use Rattle.f2_core.specs.Events.{ComesTo, IsServed}
use Rattle.f2_core.specs.Seen.{Seen, IsIn}
use Rattle.f2_script.specs.declared.script.Line.{Line}
use Rattle.f2_script.specs.declared.script.Line.TheVariants.{Mkfs, Call, Crash, Tree}
use Rattle.f2_script.specs.declared.script.Line.TheVariants as kind
use Rattle.f2_play.specs.declared.status.Status.{Status}
use Rattle.f2_play.specs.declared.status.Status.TheVariants.{Done, Usage, TooLong, Script, SourceFault, SinkFault, DiskFault, BadImage, Geometry, Memory}
use Rattle.f2_play.specs.Parts.{Part, IsCalm, text_of}
use Rattle.f2_play.specs.Calls.{Mounts}
use Rattle.f2_play.specs.Lines.{PlaysLine, PlaysLines, new_image}
use Rattle.f2_play.specs.Scripts.{BreaksLimit, PlaysAll, Prints}
use Rattle.f2_top.specs.Left.{IsSafeWhereTold, IsSafeAfter, Leaves, replay_scope}
use Rattle.f2_top.specs.Reads.{TakesScript, TakesSome}
use Rattle.f2_top.specs.Replay.{IsCutOff, IsUnread}
use Rattle.f2_top.specs.Streams.{IsCutAfter}

-- the lines that follow a `mkfs` line so far: of calls those that a core takes
abbrev pub IsPlayable : Line → Type 0
IsPlayable (Call seat request) = IsServed (Begin seat request)
IsPlayable (Crash pick) = Unit {0}
IsPlayable kind.Mount = Unit {0}
IsPlayable Tree = Unit {0}
IsPlayable _ = ⊥

-- the lines that a script may be so far: none, or a `mkfs` line and lines that follow it
abbrev pub IsPlayableScript : List Line → Type 0
IsPlayableScript [] = Unit {0}
IsPlayableScript (Mkfs blocks nat ∷ lines) = AllByRecursion IsPlayable lines
IsPlayableScript (_ ∷ lines) = ⊥

-- a line printed a text, and led from a state to another
pub record PlaysAs (limits : Limits) (from : State) (line : Line) (text : List ℕ) (to : State) : Type 0 where
  pub part : Part
  pub no_fault : IsCalm part
  pub line_played : PlaysLine limits from line part
  pub printed : part.text ≡ text
  pub after : part.after ≡ to

-- lines print a text, and lead from a state to another
pub record PlaysTo (limits : Limits) (from : State) (lines : List Line) (text : List ℕ) (to : State) : Type 0 where
  pub parts : List Part
  pub no_fault : AllByRecursion IsCalm parts
  pub played : PlaysLines limits from lines parts to
  pub printed : text ≡ text_of parts

-- lines print a text from a state on, and what they leave on a disk is safe where it is told
pub record PlaysFrom (told : Option Contents) (limits : Limits) (from : State) (lines : List Line) (text : List ℕ) : Type 0 where
  pub to : State
  pub played : PlaysTo limits from lines text to
  pub safe : IsSafeWhereTold told to

-- a bench on which nothing is planned, so that it meets no fault as long as it has room
pub record IsCalmMeter (meter : Meter) : Type 0 where
  pub none_left : meter.left ≡ 0
  pub not_stopped : meter.stopped ≡ false

-- nothing is planned on a bench, and its count of faults is as before
pub record StaysCalm (old new : Meter) : Type 0 where
  pub calm : IsCalmMeter new
  pub same_faults : new.faults ≡ old.faults

-- from each state that a core was in, on a disk that tells what it holds, an event came to what it stands for; the disk
-- tells it afterwards too
pub record Comes {D : Type 0} (before now : Option Contents) (old new : Seen D) (event : Event) (answered : Answer) : Type 0 where
  pub from_each : (from : State) → IsSome before → IsIn old.geometry before old.volume old.history from → ComesTo old new now from event answered
  pub tells : IsSome before → IsSome now

-- a core is in a state, and its disk tells what it holds, which is safe
pub record IsAt {D : Type 0} (told : Option Contents) (core : Seen D) (state : State) : Type 0 where
  pub tells : IsSome told
  pub in_state : IsIn core.geometry told core.volume core.history state
  pub safe : IsSafeWhereTold told state

-- from each state that a core was in, it printed a text for a line, and is in a state after it
abbrev pub PlaysOn : {D : Type 0} → Option Contents → Option Contents → Seen D → Seen D → Line → List ℕ → Type 0
PlaysOn then now old new line text = (from : State) → IsAt then old from → (to : State) × PlaysAs (limits_of old.geometry) from line text to × IsAt now new to

-- a core on which a volume of the root alone was mounted
pub record IsMounted {D : Type 0} (geom : ImageGeometry) (told : Option Contents) (core : Seen D) : Type 0 where
  pub mounted : List Happening
  pub start : State
  pub found : Mounts 0 Synced mounted
  pub happened : Happened (limits_of geom) calm (initial new_image) mounted start
  pub sizes : core.geometry ≡ geom
  pub at : IsAt told core start

-- what the lines of a script print, and what they leave on a disk where it is told
abbrev pub PlaysFlat : Option Contents → List Line → List ℕ → Type 0
PlaysFlat told lines text = PlaysAll FILE_SIZE (λ played parts. IsSafeAfter told parts) lines text

-- some first lines print this, where P says what lines print
pub record SomePrint (P : List Line → List ℕ → Type 0) (lines : List Line) (text : List ℕ) : Type 0 where
  pub count : ℕ
  pub holds : P (take count lines) text

-- the sink failed within what some first lines print
pub record SomeCut (P : List Line → List ℕ → Type 0) (lines : List Line) (out : List ℕ) : Type 0 where
  pub text : List ℕ
  pub first : SomePrint P lines text
  pub cut : IsCutAfter out text

-- what went out of lines, where P says what lines print when they are told of no disk, and of one
abbrev pub Ends : (Option Contents → List Line → List ℕ → Type 0) → Option Contents → List Line → Status → List ℕ → Type 0
Ends P told lines Done out = P told lines out
Ends P told lines Memory out = SomePrint (P None) lines out
Ends P told lines SinkFault out = SomeCut (P None) lines out
Ends P told lines Usage out = ⊥
Ends P told lines TooLong out = ⊥
Ends P told lines (Script line) out = ⊥
Ends P told lines SourceFault out = ⊥
Ends P told lines DiskFault out = ⊥
Ends P told lines (BadImage bad) out = ⊥
Ends P told lines (Geometry limit value) out = ⊥

-- what went out of a script, whose sizes may break a limit
abbrev pub EndsScript : Option Contents → List Line → Status → List ℕ → Type 0
EndsScript told lines (Geometry limit value) out = BreaksLimit lines limit value × (out ≡ [])
EndsScript told lines status out = Ends PlaysFlat told lines status out

-- the statuses that the lines after a `mkfs` line end with
abbrev pub IsPlayed : Status → Type 0
IsPlayed Done = Unit {0}
IsPlayed Memory = Unit {0}
IsPlayed SinkFault = Unit {0}
IsPlayed status = ⊥

-- the status that lines end with, by the limits that they keep or break
abbrev pub IsDueLines : List Line → Status → Type 0
IsDueLines lines Done = (limit : Limit) (value : ℕ) → ¬ (BreaksLimit lines limit value)
IsDueLines lines (Geometry limit value) = BreaksLimit lines limit value
IsDueLines lines status = IsPlayed status

-- what went out before the last line of a status
abbrev pub WritesFirst : Option Contents → List ℕ → Status → List ℕ → Type 0
WritesFirst told bytes SinkFault out = IsCutOff bytes out
WritesFirst told bytes status out = Prints replay_scope (Leaves told) bytes status out

-- the same, where the script may not have been read
pub data Ran (told : Option Contents) (old new : Option (List ℕ)) (status : Status) (out : List ℕ) : Type 0 where
  read : (bytes : List ℕ) → TakesScript old new bytes → WritesFirst told bytes status out → Ran told old new status out
  unread : TakesSome old new → IsUnread status → out ≡ [] → Ran told old new status out
