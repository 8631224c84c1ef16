-- What the inner functions come to.
use Rattle.std.specs.Prelude.{◌≡◌, ℕ, Bool, ◌||◌, List, [], ◌∷◌, Option, Some, None, Ok, Err}
use Rattle.f2_format.specs.Geometry.{ImageGeometry, node_third, data_third}
use Rattle.f2_layout.specs.Refusal.{geometry_of}
use Rattle.f2_model.specs.Step.{IsSeat, calm}
use Rattle.f2_model.specs.Run.{Happening}
use Rattle.f2_model.specs.declared.replies.Step.{Step}
use Rattle.f2_spans.specs.Spans.{MOST_SIZE}
use Rattle.f2_script.specs.declared.script.Line.{Line}
use Rattle.f2_script.specs.declared.script.Line.TheVariants as verb
use Rattle.f2_script.specs.declared.script.Grammar.TheVariants.{Plain}
use Rattle.f2_script.specs.Grammar.{IsLineHere, runs}
use Rattle.f2_script.specs.Steps.{made_spelling}
use Rattle.f2_play.specs.declared.status.Status.{Status}
use Rattle.f2_play.specs.declared.status.Status.TheVariants.{Done, Geometry, Memory}
use Rattle.f2_play.specs.Calls.{tells_more, is_over}
use Rattle.f2_play.specs.Lines.{Says, ended}
use Rattle.f2_play.specs.Scripts.{BreaksLimit, PlaysAll, PlaysFirst}
use Rattle.f2_reference_run.specs.declared.stops.Stop.{Stop}
use Rattle.f2_reference_run.specs.declared.stops.Stop.TheVariants.{Told, Over}
use Rattle.f2_reference_run.specs.Stages.{Stage, MakesAll, first_stage, settled_by}
use Rattle.f2_reference_run.specs.Chosen.{PlaysOn, IsScriptChosen}

-- at which steps a line stops that goes on with a call
abbrev pub stops : Stop → Step → Bool
stops Told one = tells_more one
stops Over one = is_over one

-- some events, of which R holds, led from a stage to another
pub record Leads (R : List Happening → Type 0) (from to : Stage) : Type 0 where
  pub events : List Happening
  pub made : MakesAll events from to
  pub holds : R events

-- a line says this, before the end of the line
pub record SaysOn (from : Stage) (line : Line) (text : List ℕ) (to : Stage) : Type 0 where
  pub events : List Happening
  pub mid : Stage
  pub made : MakesAll events from mid
  pub said : Says from.seen.state line calm (ended text) events
  pub stage : to ≡ settled_by line from events mid

-- the lines that make events on a plain machine; a call begins from a seat
abbrev pub IsSaying : Line → Type 0
IsSaying verb.Skipped = ⊥
IsSaying verb.Tree = ⊥
IsSaying (verb.Mkfs blocks nat) = ⊥
IsSaying (verb.Fail kind n) = ⊥
IsSaying (verb.Stop n) = ⊥
IsSaying (verb.Call seat request) = IsSeat seat
IsSaying (verb.Begin seat request) = IsSeat seat
IsSaying _ = Unit {0}

-- the lines that may follow a `mkfs` line; a call begins from a seat
abbrev pub IsPlayed : Line → Type 0
IsPlayed (verb.Mkfs blocks nat) = ⊥
IsPlayed (verb.Fail kind n) = ⊥
IsPlayed (verb.Stop n) = ⊥
IsPlayed (verb.Call seat request) = IsSeat seat
IsPlayed (verb.Begin seat request) = IsSeat seat
IsPlayed _ = Unit {0}

-- a machine was made for an image of these sizes
pub record IsMade (blocks nat : ℕ) (printed : List ℕ) (to : Option Stage) : Type 0 where
  pub geom : ImageGeometry
  pub sizes : geometry_of record { blocks = blocks; nat = nat } ≡ Ok geom
  pub made : to ≡ Some (first_stage geom)
  pub said : printed ≡ ended (made_spelling (node_third geom) (data_third geom))

-- what a line prints, also before there is a machine, and the machine after it
abbrev pub PlaysNext : Option Stage → Line → List ℕ → Option Stage → Type 0
PlaysNext None verb.Skipped printed to = (printed ≡ []) × (to ≡ None)
PlaysNext None (verb.Mkfs blocks nat) printed to = IsMade blocks nat printed to
PlaysNext None _ printed to = ⊥
PlaysNext (Some from) line printed to = (stage : Stage) × (to ≡ Some stage) × PlaysOn from line printed stage

-- a line that some text spells, and that may stand here, by whether one that runs stands before it
abbrev pub Stands : Bool → Line → Type 0
Stands begun line = (text : List ℕ) × IsLineHere Plain begun text line

-- each line is one that may stand where it stands, by whether one that runs stands before them
abbrev pub AreStanding : Bool → List Line → Type 0
AreStanding begun [] = Unit {0}
AreStanding begun (line ∷ lines) = Stands begun line × AreStanding (begun || runs line) lines

-- a line printed nothing and ends the run: it asks for sizes that no image has, or memory was refused
abbrev pub StopsAt : Status → Option Stage → Line → Type 0
StopsAt (Geometry limit value) None (verb.Mkfs blocks nat) = geometry_of record { blocks = blocks; nat = nat } ≡ Err record { limit = limit; value = value }
StopsAt (Geometry limit value) _ _ = ⊥
StopsAt Memory from line = Unit {0}
StopsAt _ from line = ⊥

-- what lines printed, by how they ended
abbrev pub EndsAs : List Line → Status → List ℕ → Type 0
EndsAs lines Done text = PlaysAll MOST_SIZE IsScriptChosen lines text
EndsAs lines (Geometry limit value) text = BreaksLimit lines limit value × (text ≡ [])
EndsAs lines Memory text = PlaysFirst MOST_SIZE IsScriptChosen lines text
EndsAs lines _ text = ⊥
