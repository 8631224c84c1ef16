-- That the lines of a script came to what a plain machine chooses.
use Rattle.std.specs.Prelude.{◌≡◌, ℕ, List, [], ◌∷◌}
use Rattle.f2_format.specs.Geometry.{ImageGeometry}
use Rattle.f2_spans.specs.Spans.{MOST_SIZE}
use Rattle.f2_script.specs.declared.script.Line.{Line}
use Rattle.f2_script.specs.declared.script.Line.TheVariants.{Skipped, Mkfs}
use Rattle.f2_script.specs.declared.script.Grammar.TheVariants.{Plain}
use Rattle.f2_play.specs.declared.status.Status.{Status}
use Rattle.f2_play.specs.Parts.{Part, IsCalm}
use Rattle.f2_play.specs.Lines.{PlaysLine}
use Rattle.f2_play.specs.Scripts.{Scope, Prints}
use Rattle.f2_reference_run.specs.Stages.{Stage, MakesAll, first_stage, settled_by}

-- a line came to what its machine chooses, and no disk failed in it
pub record IsChosen (from : Stage) (line : Line) (part : Part) (to : Stage) : Type 0 where
  pub no_fault : IsCalm part
  pub mid : Stage
  pub made : MakesAll part.events from mid
  pub state : part.after ≡ mid.seen.state
  pub stage : to ≡ settled_by line from part.events mid

-- lines did, one after another
abbrev pub AreChosen : Stage → List Line → List Part → Stage → Type 0
AreChosen from [] [] to = to ≡ from
AreChosen from [] (part ∷ parts) to = ⊥
AreChosen from (line ∷ lines) [] to = ⊥
AreChosen from (line ∷ lines) (part ∷ parts) to = (mid : Stage) × IsChosen from line part mid × AreChosen mid lines parts to

-- from a `mkfs` line on, which makes a machine
pub record IsImageChosen (geom : ImageGeometry) (lines : List Line) (parts : List Part) : Type 0 where
  pub first : Part
  pub rest : List Part
  pub whole : parts ≡ first ∷ rest
  pub no_fault : IsCalm first
  pub state : first.after ≡ (first_stage geom).seen.state
  pub last : Stage
  pub chosen : AreChosen (first_stage geom) lines rest last

-- the lines of a script did
abbrev pub IsScriptChosen : List Line → List Part → Type 0
IsScriptChosen [] parts = Unit {0}
IsScriptChosen (Skipped ∷ lines) parts = IsScriptChosen lines parts
IsScriptChosen (Mkfs blocks nat ∷ lines) parts = IsImageChosen record { blocks = blocks; nat = nat } lines parts
IsScriptChosen (_ ∷ lines) parts = ⊥

-- a line is played on a stage, and prints this
pub record PlaysOn (from : Stage) (line : Line) (text : List ℕ) (to : Stage) : Type 0 where
  pub part : Part
  pub played : PlaysLine from.seen.limits from.seen.state line part
  pub chosen : IsChosen from line part to
  pub printed : part.text ≡ text

-- what the plain machine takes: its grammar, and files of all the pages that their nodes can name
abbrev pub plain_scope : Scope
plain_scope = record { grammar = Plain; size = MOST_SIZE }

-- what is printed of the bytes of a script, before the last line of the status: what the lines come to as the machine chooses
abbrev pub PrintsChosen : List ℕ → Status → List ℕ → Type 0
PrintsChosen bytes status text = Prints plain_scope (λ ending lines parts. IsScriptChosen lines parts) bytes status text
