-- Which bytes are a script, line by line.
use Rattle.std.specs.Prelude.{◌≡◌, ℕ, ◌+◌, ◌<◌, ◌≤◌, ◌⊎◌, Bool, true, false, ◌||◌, List, [], ◌∷◌, ◌++◌, length, if◌then◌else◌, ◌==◌}
use Rattle.std.specs.List.{onto_first, flat_map}
use Rattle.f2_model.specs.declared.requests.Request.{Request}
use Rattle.f2_model.specs.declared.requests.Request.TheVariants.{Create, Write, Fsync, Sync}
use Rattle.f2_script.specs.declared.script.Line.{Line}
use Rattle.f2_script.specs.declared.script.Line.TheVariants.{Skipped, Mkfs, Call, Begin, Crash, Fail, Stop, Mount, Tree}
use Rattle.f2_script.specs.declared.script.Grammar.{Grammar}
use Rattle.f2_script.specs.declared.script.Grammar.TheVariants.{Whole, Replay, Plain}
use Rattle.f2_script.specs.Words.{AreWords, split_words}
use Rattle.f2_script.specs.Lines.{request_words, line_words, spelling}

-- the texts of the lines: a line ends at byte 10 or at the end, and where no byte is left no line begins
abbrev pub lines_of : List ℕ → List (List ℕ)
lines_of [] = []
lines_of (b ∷ bytes) = if b == 10 then [] ∷ lines_of bytes else onto_first b (lines_of bytes)

-- more bytes or more lines than a script may have
abbrev pub IsTooLong : List ℕ → Type 0
IsTooLong bytes = (1048576 < length bytes) ⊎ (65536 < length (lines_of bytes))

-- what the words of a call don't say: a write has 1 to 8 pieces
abbrev pub IsInLimits : Request → Type 0
IsInLimits (Write path pieces) = (1 ≤ length pieces) × (length pieces ≤ 8)
IsInLimits _ = Unit {0}

-- the calls that a line may begin and leave in flight
abbrev pub IsLong : Request → Type 0
IsLong (Fsync path) = Unit {0}
IsLong Sync = Unit {0}
IsLong _ = ⊥

-- texts are the words of this call
abbrev pub IsRequest : List (List ℕ) → Request → Type 0
IsRequest texts request = IsInLimits request × AreWords (request_words request) texts

-- what the words of a line don't say
abbrev pub KeepsLimits : Line → Type 0
KeepsLimits (Call seat request) = IsInLimits request
KeepsLimits (Begin seat request) = IsLong request
KeepsLimits _ = Unit {0}

-- texts are the words of this line
abbrev pub IsSaid : List (List ℕ) → Line → Type 0
IsSaid texts line = KeepsLimits line × AreWords (line_words line) texts

-- a line that says nothing: it is empty or begins with `#`
abbrev pub SaysNothing : List ℕ → Type 0
SaysNothing [] = Unit {0}
SaysNothing (b ∷ text) = b ≡ 35

-- the text is this line
abbrev pub IsLine : List ℕ → Line → Type 0
IsLine text line = (SaysNothing text × (line ≡ Skipped)) ⊎ IsSaid (split_words text) line

-- the lines that each grammar takes: `Replay` has no other calls than creates, writes and syncs so far; `Plain` plans no
-- failures, and its crashes keep either all that was written or as little as they may
abbrev pub takes : Grammar → Line → Bool
takes Whole _ = true
takes Replay (Mkfs blocks nat) = true
takes Replay (Call seat (Create path)) = true
takes Replay (Call seat (Write path pieces)) = true
takes Replay (Call seat Sync) = true
takes Replay (Crash pick) = true
takes Replay Mount = true
takes Replay Tree = true
takes Replay _ = false
takes Plain (Crash pick) = pick == 0 || pick == 18446744073709551615
takes Plain (Fail kind n) = false
takes Plain (Stop n) = false
takes Plain _ = true

-- whether a line is one that runs
abbrev pub runs : Line → Bool
runs Skipped = false
runs _ = true

-- where a line may stand, by whether one that runs stands before it: `mkfs` is the first that runs, and
-- stands nowhere else
abbrev pub MayFollow : Bool → Line → Type 0
MayFollow begun Skipped = Unit {0}
MayFollow begun (Mkfs blocks nat) = begun ≡ false
MayFollow begun _ = begun ≡ true

-- the grammar takes this line, and it may stand here
abbrev pub MayStand : Grammar → Bool → Line → Type 0
MayStand grammar begun line = (takes grammar line ≡ true) × MayFollow begun line

-- the text is this line, which may stand here
abbrev pub IsLineHere : Grammar → Bool → List ℕ → Line → Type 0
IsLineHere grammar begun text line = IsLine text line × MayStand grammar begun line

-- the texts are these lines in order, each where it may stand
abbrev pub AreLines : Grammar → Bool → List (List ℕ) → List Line → Type 0
AreLines grammar begun [] [] = Unit {0}
AreLines grammar begun [] (line ∷ lines) = ⊥
AreLines grammar begun (text ∷ texts) [] = ⊥
AreLines grammar begun (text ∷ texts) (line ∷ lines) = IsLineHere grammar begun text line × AreLines grammar (begun || runs line) texts lines

-- the bytes of a script are these lines
abbrev pub Spells : Grammar → List ℕ → List Line → Type 0
Spells grammar bytes lines = AreLines grammar false (lines_of bytes) lines

-- the first texts are these lines, each where it may stand, and the text after them is no line that may stand there
abbrev pub FaultAfter : Grammar → Bool → List (List ℕ) → List Line → Type 0
FaultAfter grammar begun [] lines = ⊥
FaultAfter grammar begun (text ∷ texts) [] = (line : Line) → ¬ (IsLineHere grammar begun text line)
FaultAfter grammar begun (text ∷ texts) (line ∷ lines) = IsLineHere grammar begun text line × FaultAfter grammar (begun || runs line) texts lines

-- line n of the bytes, counted from 1, is the first that isn't in the grammar at its place
abbrev pub IsFirstFault : Grammar → List ℕ → ℕ → Type 0
IsFirstFault grammar bytes n = (lines : List Line) × (n ≡ length lines + 1) × FaultAfter grammar false (lines_of bytes) lines

-- the lines as a script, with a byte 10 after each
abbrev pub script_text : List Line → List ℕ
script_text lines = flat_map (λ line. spelling line ++ 10 ∷ []) lines
