-- Scripts have one reading.
use Rattle.std.proofs.Common.{◌≡◌, ℕ, ◌+◌, Bool, false, ◌||◌, List, [], ◌∷◌, length, refl, sym, ◌∙◌, ap, subst, arith, append_assoc, suc, Result, Ok, Err}
use Rattle.std.specs.Prelude.{IfOk}
use Rattle.f2_script.specs.declared.script.ScriptFault.{ScriptFault}
use Rattle.f2_script.specs.declared.script.ScriptFault.TheVariants as fault
use Rattle.f2_script.specs.Faults.{UnlessMemory}
use Rattle.std.specs.List.{AllByRecursion}
use Rattle.f2_script.specs.declared.script.Line.{Line}
use Rattle.f2_script.specs.declared.script.Grammar.{Grammar}
use Rattle.f2_script.specs.Cuts.{Lacks}
use Rattle.f2_script.specs.Lines.{spelling}
use Rattle.f2_script.specs.Grammar.{lines_of, runs, IsLineHere, AreLines, FaultAfter, Spells, IsFirstFault, script_text}
use Rattle.f2_script.proofs.LineKinds.{one_line}
use Rattle.f2_script.proofs.Spellings.{line_back}
use Rattle.f2_script.proofs.LineTexts.{lines_at, lines_lack}

pub one_reading : (grammar : Grammar) (begun : Bool) (texts : List (List ℕ)) (a b : List Line) → AreLines grammar begun texts a → AreLines grammar begun texts b → a ≡ b
one_reading grammar begun [] [] [] h k = refl
one_reading grammar begun [] [] (m ∷ b) h k = absurd k
one_reading grammar begun [] (l ∷ a) b h k = absurd h
one_reading grammar begun (text ∷ texts) [] b h k = absurd h
one_reading grammar begun (text ∷ texts) (l ∷ a) [] h k = absurd k
one_reading grammar begun (text ∷ texts) (l ∷ a) (m ∷ b) h k =
    let x : l ≡ m = one_line text l m h.0.0 k.0.0 in
    let y : a ≡ b = one_reading grammar (begun || runs l) texts a b h.1 (subst (λ n. AreLines grammar (begun || runs n) texts b) (sym x) k.1) in
    rw (x, y) refl

pub no_fault : (grammar : Grammar) (begun : Bool) (texts : List (List ℕ)) (a b : List Line) → AreLines grammar begun texts a → FaultAfter grammar begun texts b → ⊥
no_fault grammar begun [] a b h k = k
no_fault grammar begun (text ∷ texts) [] b h k = h
no_fault grammar begun (text ∷ texts) (l ∷ a) [] h k = k l h.0
no_fault grammar begun (text ∷ texts) (l ∷ a) (m ∷ b) h k =
    let x : l ≡ m = one_line text l m h.0.0 k.0.0 in
    no_fault grammar (begun || runs l) texts a b h.1 (subst (λ n. FaultAfter grammar (begun || runs n) texts b) (sym x) k.1)

pub one_fault : (grammar : Grammar) (begun : Bool) (texts : List (List ℕ)) (a b : List Line) → FaultAfter grammar begun texts a → FaultAfter grammar begun texts b → length a ≡ length b
one_fault grammar begun [] a b h k = absurd h
one_fault grammar begun (text ∷ texts) [] [] h k = refl
one_fault grammar begun (text ∷ texts) [] (m ∷ b) h k = absurd (h m k.0)
one_fault grammar begun (text ∷ texts) (l ∷ a) [] h k = absurd (k l h.0)
one_fault grammar begun (text ∷ texts) (l ∷ a) (m ∷ b) h k =
    let x : l ≡ m = one_line text l m h.0.0 k.0.0 in
    ap suc (one_fault grammar (begun || runs l) texts a b h.1 (subst (λ n. FaultAfter grammar (begun || runs n) texts b) (sym x) k.1))

-- the lines of a script in their own texts
lines_back : (grammar : Grammar) (begun : Bool) (texts : List (List ℕ)) (lines : List Line) → AllByRecursion (Lacks 10) texts → AreLines grammar begun texts lines → AreLines grammar begun (lines_of (script_text lines)) lines
lines_back grammar begun [] [] lack h = tt
lines_back grammar begun [] (l ∷ lines) lack h = absurd h
lines_back grammar begun (text ∷ texts) [] lack h = absurd h
lines_back grammar begun (text ∷ texts) (l ∷ lines) lack h =
    let back = line_back text l lack.0 h.0.0 in
    let here : IsLineHere grammar begun (spelling l) l = (back.0, h.0.1) in
    let split : lines_of (script_text (l ∷ lines)) ≡ spelling l ∷ lines_of (script_text lines) =
    ap lines_of (append_assoc (spelling l) (10 ∷ []) (script_text lines)) ∙ lines_at (spelling l) (script_text lines) back.1 in
    subst (λ t. AreLines grammar begun t (l ∷ lines)) (sym split) (here, lines_back grammar (begun || runs l) texts lines lack.1 h.1)

pub reads_back : (grammar : Grammar) (bytes : List ℕ) (lines : List Line) → Spells grammar bytes lines → Spells grammar (script_text lines) lines
reads_back grammar bytes lines h = lines_back grammar false (lines_of bytes) lines (lines_lack bytes) h

-- a reader whose answers are right gives the lines of a script
pub gives_lines : (r : Result (List Line) ScriptFault) (grammar : Grammar) (bytes : List ℕ) (lines : List Line) → IfOk r (Spells grammar bytes) → (r ≡ Err fault.TooLong → ⊥) → ((n : ℕ) → r ≡ Err (fault.Line n) → IsFirstFault grammar bytes n) → Spells grammar bytes lines → UnlessMemory r (Ok lines)
gives_lines (Ok read) grammar bytes lines ok long line h = ap (λ l. Ok l) (one_reading grammar false (lines_of bytes) read lines ok h)
gives_lines (Err fault.Memory) grammar bytes lines ok long line h = tt
gives_lines (Err fault.TooLong) grammar bytes lines ok long line h = absurd (long refl)
gives_lines (Err (fault.Line n)) grammar bytes lines ok long line h =
    let f = line n refl in
    absurd (no_fault grammar false (lines_of bytes) lines f.0 h f.2)

-- and names the first fault
pub gives_fault : (r : Result (List Line) ScriptFault) (grammar : Grammar) (bytes : List ℕ) (n : ℕ) → IfOk r (Spells grammar bytes) → (r ≡ Err fault.TooLong → ⊥) → ((m : ℕ) → r ≡ Err (fault.Line m) → IsFirstFault grammar bytes m) → IsFirstFault grammar bytes n → UnlessMemory r (Err (fault.Line n))
gives_fault (Ok read) grammar bytes n ok long line h = absurd (no_fault grammar false (lines_of bytes) read h.0 ok h.2)
gives_fault (Err fault.Memory) grammar bytes n ok long line h = tt
gives_fault (Err fault.TooLong) grammar bytes n ok long line h = absurd (long refl)
gives_fault (Err (fault.Line m)) grammar bytes n ok long line h =
    let f = line m refl in
    let e : length f.0 ≡ length h.0 = one_fault grammar false (lines_of bytes) f.0 h.0 f.2 h.2 in
    let a : m ≡ length f.0 + 1 = f.1 in
    let b : n ≡ length h.0 + 1 = h.1 in
    let same : m ≡ n = omega arith in
    ap (λ k. Err (fault.Line k)) same
