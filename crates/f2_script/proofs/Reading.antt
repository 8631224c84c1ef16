-- What the reader of a script has read so far, and what is left.
use Rattle.std.proofs.Common.{◌≡◌, ℕ, ◌+◌, Bool, false, ◌||◌, List, None, [], ◌∷◌, ◌++◌, length, refl, ap, subst, arith, append_assoc, length-append}
use Rattle.f2_script.specs.declared.script.Line.{Line}
use Rattle.f2_script.specs.declared.script.Grammar.{Grammar}
use Rattle.f2_script.specs.Cuts.{Finds}
use Rattle.f2_script.specs.Grammar.{lines_of, runs, IsLineHere, AreLines, FaultAfter, Spells, IsFirstFault}
use Rattle.std.proofs.lemmas.List.{append-nil}

-- whatever the rest is, the lines so far and the rest's are the script's
pub record ReadsOn (grammar : Grammar) (bytes : List ℕ) (lines : List Line) (begun : Bool) (left : List ℕ) : Type 0 where
  pub spelled : (more : List Line) → AreLines grammar begun (lines_of left) more → AreLines grammar false (lines_of bytes) (lines ++ more)
  pub faulty : (more : List Line) → FaultAfter grammar begun (lines_of left) more → FaultAfter grammar false (lines_of bytes) (lines ++ more)
  pub counted : length lines + length (lines_of left) ≡ length (lines_of bytes)

pub reads_start : (grammar : Grammar) (bytes : List ℕ) → ReadsOn grammar bytes [] false bytes
reads_start grammar bytes = record { spelled = λ more h. h; faulty = λ more h. h; counted = omega arith }

pub reads_more : (grammar : Grammar) (bytes : List ℕ) (lines : List Line) (begun : Bool) (left text rest : List ℕ) (line : Line) → ReadsOn grammar bytes lines begun left → lines_of left ≡ text ∷ lines_of rest → IsLineHere grammar begun text line → ReadsOn grammar bytes (lines ++ line ∷ []) (begun || runs line) rest
reads_more grammar bytes lines begun left text rest line on e here = record {
  spelled = λ more h. rw append_assoc (on.spelled (line ∷ more) (rw e (here, h)));
  faulty = λ more h. rw append_assoc (on.faulty (line ∷ more) (rw e (here, h)));
  counted =
      let c = on.counted in
      let f : length (lines_of left) ≡ length (text ∷ lines_of rest) = ap length e in
      omega (arith, length-append lines (line ∷ []));
}

pub reads_end : (grammar : Grammar) (bytes : List ℕ) (lines : List Line) (begun : Bool) (left : List ℕ) → ReadsOn grammar bytes lines begun left → lines_of left ≡ [] → Spells grammar bytes lines
reads_end grammar bytes lines begun left on e =
    subst (Spells grammar bytes) (append-nil lines) (on.spelled [] (rw e tt))

pub reads_fault : (grammar : Grammar) (bytes : List ℕ) (lines : List Line) (begun : Bool) (left text rest : List ℕ) → ReadsOn grammar bytes lines begun left → lines_of left ≡ text ∷ lines_of rest → Finds (IsLineHere grammar begun text) None → IsFirstFault grammar bytes (length lines + 1)
reads_fault grammar bytes lines begun left text rest on e none =
    (lines, refl, subst (FaultAfter grammar false (lines_of bytes)) (append-nil lines) (on.faulty [] (rw e none)))
