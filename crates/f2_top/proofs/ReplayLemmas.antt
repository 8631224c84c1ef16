-- From the lines of a script to what its bytes tell.
use Rattle.std.proofs.Common.{◌≡◌, ℕ, arith, inl, true, false, List, [], ◌∷◌, ◌++◌, refl, sym, ap, ◌∙◌, subst, append_assoc, append-nil, inr, Result, Ok, Err, take, drop, take-append-drop}
use Rattle.std.specs.Prelude.{codes, Option, None}
use Rattle.std.specs.List.{AllByRecursion}
use Rattle.f2_disk.specs.Contents.{Contents}
use Rattle.f2_model.specs.declared.requests.Request.TheVariants as request
use Rattle.f2_script.specs.declared.script.Line.{Line}
use Rattle.f2_script.specs.declared.script.Line.TheVariants.{Skipped, Mkfs, Call, Crash, Tree}
use Rattle.f2_script.specs.declared.script.Line.TheVariants as kind
use Rattle.f2_script.specs.declared.script.Grammar.TheVariants as grammar
use Rattle.f2_script.specs.declared.script.ScriptFault.{ScriptFault}
use Rattle.f2_script.specs.declared.script.ScriptFault.TheVariants as fault
use Rattle.f2_script.specs.Grammar.{IsFirstFault, IsLine, AreLines, IsTooLong, MayFollow, Spells, lines_of, takes}
use Rattle.f2_script.specs.Lines.{Seat, request_words}
use Rattle.f2_script.specs.Words.{Word, Said, AreWords, split_words}
use Rattle.f2_model.specs.Step.{IsSeat}
use Rattle.f2_model.specs.declared.requests.Request.{Request}
use Rattle.f2_play.specs.declared.status.Status.{Status}
use Rattle.f2_play.specs.declared.status.Status.TheVariants as status
use Rattle.f2_play.specs.Endings.{IsSilent, last_line}
use Rattle.f2_play.specs.Scripts.{PlaysFirst, Prints}
use Rattle.f2_flat.specs.Flat.{FILE_SIZE}
use Rattle.f2_top.specs.Left.{Leaves, replay_scope}
use Rattle.f2_top.specs.Reads.{TakesScript}
use Rattle.f2_top.specs.Replay.{IsCutOff, Writes, IsUnread, Replays, read, unread, Finishes, said_whole, broken_off, IsReplayed, IsRefused, said, cut_off}
use Rattle.f2_top.specs.Runs as runs
use Rattle.f2_top.specs.Runs.{IsPlayable, IsPlayableScript, PlaysFlat, SomePrint, EndsScript, WritesFirst, Ran}
use Rattle.std.specs.Io.KnownBytes.{Appends}
use Rattle.std.proofs.KnownBytes.{Appends-nil, Appends-trans}
use Rattle.f2_top.specs.Streams.{IsCutAfter}

-- the seat of a call is one that calls are made from
seated : (seat : ℕ) (words : List Word) (texts : List (List ℕ)) → AreWords (Said (codes "call") ∷ Seat seat ∷ words) texts → IsSeat seat
seated seat words [] h = absurd h
seated seat words (text ∷ []) h = absurd h.1
seated seat words (text ∷ next ∷ texts) h = record { first = h.1.0.0; last = (let most = h.1.0.1 in omega (arith, most)) }

call-seated : (text : List ℕ) (seat : ℕ) (asked : Request) → IsLine text (Call seat asked) → IsSeat seat
call-seated text seat asked (inl (nothing, is)) = absurd (cc)
call-seated text seat asked (inr (limits, words)) = seated seat (request_words asked) (split_words text) words

-- a line that the grammar takes after the first can be played
playable-line : (text : List ℕ) (line : Line) → IsLine text line → takes grammar.Replay line ≡ true → MayFollow true line → IsPlayable line
playable-line text (Mkfs blocks nat) is taken follows = let e : true ≡ false = follows in absurd (cc)
playable-line text (Call seat (request.Create path)) is taken follows = call-seated text seat (request.Create path) is
playable-line text (Call seat (request.Write path pieces)) is taken follows = call-seated text seat (request.Write path pieces) is
playable-line text (Call seat request.Sync) is taken follows = call-seated text seat request.Sync is
playable-line text (Crash pick) is taken follows = tt
playable-line text kind.Mount is taken follows = tt
playable-line text Tree is taken follows = tt
playable-line text line is taken follows = let e : false ≡ true = taken in absurd (cc)

-- the lines of the grammar after the first can be played
playable-lines : (texts : List (List ℕ)) (lines : List Line) → AreLines grammar.Replay true texts lines → AllByRecursion IsPlayable lines
playable-lines [] [] h = tt
playable-lines [] (line ∷ lines) h = absurd h
playable-lines (text ∷ texts) [] h = absurd h
playable-lines (text ∷ texts) (line ∷ lines) h = (playable-line text line h.0.0 h.0.1.0 h.0.1.1, playable-lines texts lines h.1)

playable-script : (texts : List (List ℕ)) (lines : List Line) → AreLines grammar.Replay false texts lines → IsPlayableScript lines
playable-script [] [] h = tt
playable-script [] (line ∷ lines) h = absurd h
playable-script (text ∷ texts) [] h = absurd h
playable-script (text ∷ texts) (Mkfs blocks nat ∷ lines) h = playable-lines texts lines h.1
playable-script (text ∷ texts) (Skipped ∷ lines) h = let e : false ≡ true = h.0.1.0 in absurd (cc)
playable-script (text ∷ texts) (line ∷ lines) h = let e : false ≡ true = h.0.1.1 in absurd (cc)

pub Spells-playable : (bytes : List ℕ) (lines : List Line) → Spells grammar.Replay bytes lines → IsPlayableScript lines
Spells-playable bytes lines h = playable-script (lines_of bytes) lines h

-- some first lines
first-lines : (lines : List Line) (out : List ℕ) → SomePrint (PlaysFlat None) lines out → PlaysFirst FILE_SIZE (Leaves None status.Memory) lines out
first-lines lines out some = record {
  first = take some.count lines;
  rest = drop some.count lines;
  whole = sym (take-append-drop some.count lines);
  played = record { parts = some.holds.parts; played = some.holds.played; more = tt; printed = some.holds.printed };
}

-- what went out of the lines that bytes are
pub WritesFirst-lines : (told : Option Contents) (bytes : List ℕ) (lines : List Line) (s : Status) (out : List ℕ)
    → ¬ (IsTooLong bytes) → Spells grammar.Replay bytes lines → EndsScript told lines s out → WritesFirst told bytes s out
WritesFirst-lines told bytes lines status.Done out fits spelled ends = record { fits = fits; lines = lines; spelled = spelled; holds = ends }
WritesFirst-lines told bytes lines status.Memory out fits spelled ends =
    inr record { fits = fits; lines = lines; spelled = spelled; holds = first-lines lines out ends }
WritesFirst-lines told bytes lines status.SinkFault out fits spelled ends = record {
  status = status.Memory;
  text = ends.text;
  first = record {
    text = ends.text;
    printed = inr record { fits = fits; lines = lines; spelled = spelled; holds = first-lines lines ends.text ends.first };
    whole = sym (append-nil ends.text);
  };
  cut = ends.cut;
}
WritesFirst-lines told bytes lines status.Usage out fits spelled ends = absurd ends
WritesFirst-lines told bytes lines status.TooLong out fits spelled ends = absurd ends
WritesFirst-lines told bytes lines (status.Script line) out fits spelled ends = absurd ends
WritesFirst-lines told bytes lines status.SourceFault out fits spelled ends = absurd ends
WritesFirst-lines told bytes lines status.DiskFault out fits spelled ends = absurd ends
WritesFirst-lines told bytes lines (status.BadImage bad) out fits spelled ends = absurd ends
WritesFirst-lines told bytes lines (status.Geometry limit value) out fits spelled ends =
    (record { fits = fits; lines = lines; spelled = spelled; holds = ends.0 }, ends.1)

-- the last line after what went out before it
Writes-told : (told : Option Contents) (bytes : List ℕ) (s : Status) (out : List ℕ) → WritesFirst told bytes s out → Writes told bytes s (out ++ last_line s)
Writes-told told bytes status.SinkFault out h = subst (IsCutOff bytes) (sym (append-nil out)) h
Writes-told told bytes status.Done out h = record { text = out; printed = h; whole = refl }
Writes-told told bytes status.Usage out h = absurd h
Writes-told told bytes status.TooLong out h = record { text = out; printed = h; whole = refl }
Writes-told told bytes (status.Script line) out h = record { text = out; printed = h; whole = refl }
Writes-told told bytes status.SourceFault out h = absurd h
Writes-told told bytes status.DiskFault out h = absurd h
Writes-told told bytes (status.BadImage bad) out h = absurd h
Writes-told told bytes (status.Geometry limit value) out h = record { text = out; printed = h; whole = refl }
Writes-told told bytes status.Memory out h = record { text = out; printed = h; whole = refl }

unread-silent : (s : Status) → IsUnread s → last_line s ≡ []
unread-silent status.Done h = absurd h
unread-silent status.Usage h = absurd h
unread-silent status.TooLong h = absurd h
unread-silent (status.Script line) h = absurd h
unread-silent status.SourceFault h = refl
unread-silent status.SinkFault h = absurd h
unread-silent status.DiskFault h = absurd h
unread-silent (status.BadImage bad) h = absurd h
unread-silent (status.Geometry limit value) h = absurd h
unread-silent status.Memory h = refl

pub Ran-told : (told : Option Contents) (old new : Option (List ℕ)) (s : Status) (out : List ℕ) → Ran told old new s out → Replays told old new s (out ++ last_line s)
Ran-told told old new s out (runs.read bytes taken wrote) = read bytes taken (Writes-told told bytes s out wrote)
Ran-told told old new s out (runs.unread taken none empty) = unread taken none (ap (λ t. t ++ last_line s) empty ∙ unread-silent s none)

-- the sink failed within the last line
cut-last : (bytes : List ℕ) (s : Status) (out gone : List ℕ) → Prints replay_scope (Leaves None) bytes s out → IsCutAfter gone (last_line s) → IsCutOff bytes (out ++ gone)
cut-last bytes s out gone printed cut = record {
  status = s;
  text = out ++ last_line s;
  first = record { text = out; printed = printed; whole = refl };
  cut = record { rest = cut.rest; whole = ap (λ t. out ++ t) cut.whole ∙ sym (append_assoc out gone cut.rest) };
}

Writes-cut : (told : Option Contents) (bytes : List ℕ) (s : Status) (out gone : List ℕ) → ¬ (IsSilent s) → WritesFirst told bytes s out → IsCutAfter gone (last_line s) → IsCutOff bytes (out ++ gone)
Writes-cut told bytes status.SinkFault out gone loud h cut = absurd (loud tt)
Writes-cut told bytes status.Done out gone loud h cut = absurd (loud tt)
Writes-cut told bytes status.Usage out gone loud h cut = absurd h
Writes-cut told bytes status.TooLong out gone loud h cut = cut-last bytes status.TooLong out gone h cut
Writes-cut told bytes (status.Script line) out gone loud h cut = cut-last bytes (status.Script line) out gone h cut
Writes-cut told bytes status.SourceFault out gone loud h cut = absurd h
Writes-cut told bytes status.DiskFault out gone loud h cut = absurd h
Writes-cut told bytes (status.BadImage bad) out gone loud h cut = absurd h
Writes-cut told bytes (status.Geometry limit value) out gone loud h cut = cut-last bytes (status.Geometry limit value) out gone h cut
Writes-cut told bytes status.Memory out gone loud h cut = absurd (loud tt)

unread-loud : (s : Status) → IsUnread s → IsSilent s
unread-loud status.Done h = absurd h
unread-loud status.Usage h = absurd h
unread-loud status.TooLong h = absurd h
unread-loud (status.Script line) h = absurd h
unread-loud status.SourceFault h = tt
unread-loud status.SinkFault h = absurd h
unread-loud status.DiskFault h = absurd h
unread-loud (status.BadImage bad) h = absurd h
unread-loud (status.Geometry limit value) h = absurd h
unread-loud status.Memory h = tt

pub Ran-cut : (told : Option Contents) (old new : Option (List ℕ)) (s : Status) (out gone : List ℕ) → ¬ (IsSilent s) → Ran told old new s out → IsCutAfter gone (last_line s) → Replays told old new status.SinkFault (out ++ gone)
Ran-cut told old new s out gone loud (runs.read bytes taken wrote) cut = read bytes taken (Writes-cut told bytes s out gone loud wrote cut)
Ran-cut told old new s out gone loud (runs.unread taken none empty) cut = absurd (loud (unread-loud s none))

-- a replay, and the last line of its status
pub IsReplayed-of : (told : Option Contents) (old new then mid now : Option (List ℕ)) (s ending : Status)
    → (out : List ℕ) × Appends then mid out × Ran told old new s out → Finishes mid now s ending → IsReplayed told old new then now ending
IsReplayed-of told old new then mid now s ending (out, written, ran) (said_whole same line) = record {
  out = out ++ last_line s;
  written = Appends-trans then mid now out (last_line s) written line;
  replayed = subst (λ e. Replays told old new e (out ++ last_line s)) (sym same) (Ran-told told old new s out ran);
}
IsReplayed-of told old new then mid now s ending (out, written, ran) (broken_off failed loud some) = record {
  out = out ++ some.gone;
  written = Appends-trans then mid now out some.gone written some.written;
  replayed = subst (λ e. Replays told old new e (out ++ some.gone)) (sym failed) (Ran-cut told old new s out some.gone loud ran some.cut);
}

-- words that are no command
pub IsRefused-of : (then now : Option (List ℕ)) (ending : Status) → Finishes then now status.Usage ending → IsRefused then now ending
IsRefused-of then now ending (said_whole same line) = said same line
IsRefused-of then now ending (broken_off failed loud some) = cut_off failed some

-- a fault of the source is blamed on no last line
pub Finishes-source : (then now : Option (List ℕ)) (s : Status) → Finishes then now s status.SourceFault → s ≡ status.SourceFault
Finishes-source then now s (said_whole same line) = sym same
Finishes-source then now s (broken_off failed loud some) = absurd (cc)

-- a script that was read is not too long
pub ok-fits : (bytes : List ℕ) (lines : List Line) (r : Result (List Line) ScriptFault) → r ≡ Ok lines → (IsTooLong bytes → r ≡ Err fault.TooLong) → ¬ (IsTooLong bytes)
ok-fits bytes lines r is f long = let e : r ≡ Err fault.TooLong = f long in cc

pub line-fits : (bytes : List ℕ) (n : ℕ) (r : Result (List Line) ScriptFault) → r ≡ Err (fault.Line n) → (IsTooLong bytes → r ≡ Err fault.TooLong) → ¬ (IsTooLong bytes)
line-fits bytes n r is f long = let e : r ≡ Err fault.TooLong = f long in cc

-- a script whose lines were run
pub Ran-lines : (told : Option Contents) (old new then now : Option (List ℕ)) (bytes : List ℕ) (lines : List Line) (s : Status)
    → TakesScript old new bytes → ¬ (IsTooLong bytes) → Spells grammar.Replay bytes lines
    → (out : List ℕ) × Appends then now out × EndsScript told lines s out → (out : List ℕ) × Appends then now out × Ran told old new s out
Ran-lines told old new then now bytes lines s taken fits spelled ended =
    (ended.0, ended.1, runs.read bytes taken (WritesFirst-lines told bytes lines s ended.0 fits spelled ended.2))

-- a script of which nothing was run
pub Ran-none : (told : Option Contents) (old new then : Option (List ℕ)) (bytes : List ℕ) (s : Status) → TakesScript old new bytes → WritesFirst told bytes s []
    → (out : List ℕ) × Appends then then out × Ran told old new s out
Ran-none told old new then bytes s taken first = ([], Appends-nil then, runs.read bytes taken first)

-- a script with a line outside the grammar
pub Ran-line : (told : Option Contents) (old new then : Option (List ℕ)) (bytes : List ℕ) (n m : ℕ) → TakesScript old new bytes → ¬ (IsTooLong bytes) → IsFirstFault grammar.Replay bytes n → n ≡ m
    → (out : List ℕ) × Appends then then out × Ran told old new (status.Script m) out
Ran-line told old new then bytes n m taken fits first same =
    Ran-none told old new then bytes (status.Script m) taken (fits, subst (λ k. IsFirstFault grammar.Replay bytes k) same first, refl)
