-- What is printed of the bytes of a script, by the status that the run ends with.
use Rattle.std.specs.Prelude.{◌≡◌, ◌⊎◌, ℕ, List, [], ◌∷◌, ◌++◌, Ok, Err}
use Rattle.f2_format.specs.Geometry.{ImageGeometry}
use Rattle.f2_layout.specs.Refusal.{geometry_of}
use Rattle.f2_layout.specs.declared.geometry.Limit.{Limit}
use Rattle.f2_model.specs.State.{State}
use Rattle.f2_script.specs.declared.script.Grammar.{Grammar}
use Rattle.f2_script.specs.declared.script.Line.{Line}
use Rattle.f2_script.specs.declared.script.Line.TheVariants.{Skipped, Mkfs}
use Rattle.f2_script.specs.Grammar.{IsTooLong, Spells, IsFirstFault}
use Rattle.f2_play.specs.declared.status.Status.{Status}
use Rattle.f2_play.specs.declared.status.Status.TheVariants.{Done, Usage, TooLong, Script, SourceFault, SinkFault, DiskFault, BadImage, Geometry, Memory}
use Rattle.f2_play.specs.Parts.{Part, text_of}
use Rattle.f2_play.specs.Lines.{PlaysLines, PlaysMkfs, granted}
use Rattle.f2_play.specs.Faults.{AreCounted, nothing_planned}
use Rattle.f2_play.specs.Endings.{last_line}

-- what a program takes so far: which lines, and how many bytes a file may have
pub record Scope : Type 0 where
  pub grammar : Grammar
  pub size : ℕ

-- the lines from a `mkfs` line on came to these parts, of which the first is that line's
pub record PlaysImage (size : ℕ) (geom : ImageGeometry) (lines : List Line) (parts : List Part) : Type 0 where
  pub sizes : geometry_of geom ≡ Ok geom
  pub first : Part
  pub rest : List Part
  pub whole : parts ≡ first ∷ rest
  pub after : State
  pub made : PlaysMkfs (granted size geom) geom first
  pub played : PlaysLines (granted size geom) first.after lines rest after
  -- the disk's count of faults before the `mkfs` line
  pub count : ℕ
  pub counted : AreCounted (nothing_planned count) count (Mkfs geom.blocks geom.nat ∷ lines) parts

-- The lines of a script came to these parts. Before the `mkfs` line there are none but lines that say nothing, which come to
-- no part.
abbrev pub PlaysScript : ℕ → List Line → List Part → Type 0
PlaysScript size [] parts = parts ≡ []
PlaysScript size (Skipped ∷ lines) parts = PlaysScript size lines parts
PlaysScript size (Mkfs blocks nat ∷ lines) parts = PlaysImage size record { blocks = blocks; nat = nat } lines parts
PlaysScript size (_ ∷ lines) parts = ⊥

-- the `mkfs` line asks for an image that breaks this limit first, by this number
abbrev pub BreaksLimit : List Line → Limit → ℕ → Type 0
BreaksLimit (Skipped ∷ lines) limit value = BreaksLimit lines limit value
BreaksLimit (Mkfs blocks nat ∷ lines) limit value = geometry_of record { blocks = blocks; nat = nat } ≡ Err record { limit = limit; value = value }
BreaksLimit _ limit value = ⊥

-- lines printed this; a program may say more of the lines and what they came to
pub record PlaysAll (size : ℕ) (More : List Line → List Part → Type 0) (lines : List Line) (text : List ℕ) : Type 0 where
  pub parts : List Part
  pub played : PlaysScript size lines parts
  pub more : More lines parts
  pub printed : text ≡ text_of parts

-- some first lines did
pub record PlaysFirst (size : ℕ) (More : List Line → List Part → Type 0) (lines : List Line) (text : List ℕ) : Type 0 where
  pub first : List Line
  pub rest : List Line
  pub whole : lines ≡ first ++ rest
  pub played : PlaysAll size More first text

-- the bytes are these lines, of which R holds
pub record IsReadAs (grammar : Grammar) (bytes : List ℕ) (R : List Line → Type 0) : Type 0 where
  pub fits : ¬ (IsTooLong bytes)
  pub lines : List Line
  pub spelled : Spells grammar bytes lines
  pub holds : R lines

-- what the lines printed, before the last line of the status; more is said of them by the status
abbrev pub Prints : Scope → (Status → List Line → List Part → Type 0) → List ℕ → Status → List ℕ → Type 0
Prints scope More bytes Done text = IsReadAs scope.grammar bytes (λ lines. PlaysAll scope.size (More Done) lines text)
Prints scope More bytes TooLong text = IsTooLong bytes × (text ≡ [])
Prints scope More bytes (Script line) text = ¬ (IsTooLong bytes) × IsFirstFault scope.grammar bytes line × (text ≡ [])
Prints scope More bytes (Geometry limit value) text = IsReadAs scope.grammar bytes (λ lines. BreaksLimit lines limit value) × (text ≡ [])
Prints scope More bytes Memory text = (text ≡ []) ⊎ IsReadAs scope.grammar bytes (λ lines. PlaysFirst scope.size (More Memory) lines text)
Prints scope More bytes Usage text = ⊥
Prints scope More bytes SourceFault text = ⊥
Prints scope More bytes SinkFault text = ⊥
Prints scope More bytes DiskFault text = ⊥
Prints scope More bytes (BadImage bad) text = ⊥

-- all that went out: what the lines printed, and the last line of the status
pub record Tells (scope : Scope) (More : Status → List Line → List Part → Type 0) (bytes : List ℕ) (status : Status) (out : List ℕ) : Type 0 where
  pub text : List ℕ
  pub printed : Prints scope More bytes status text
  pub whole : out ≡ text ++ last_line status
