-- How a script falls into the texts of its lines.
use Rattle.std.proofs.Common.{◌≡◌, ◌≢◌, ℕ, ◌<◌, Bool, true, false, eqb, List, [], ◌∷◌, ◌++◌, length, refl, arith}
use Rattle.std.specs.List.{onto_first, AllByRecursion}
use Rattle.f2_script.specs.Cuts.{Lacks, IsCutAt}
use Rattle.f2_script.specs.Grammar.{lines_of}

false_from_ne : (x byte : ℕ) → x ≢ byte → eqb x byte ≡ false
false_from_ne x byte ne = grind arith

-- a line ends at its byte 10
pub lines_at : (before after : List ℕ) → Lacks 10 before → lines_of (before ++ 10 ∷ after) ≡ before ∷ lines_of after
lines_at [] after h = refl
lines_at (b ∷ before) after h = rw (false_from_ne b 10 h.0) (rw (lines_at before after h.1) refl)

pub lines_cut : (text before after : List ℕ) → IsCutAt 10 text before after → lines_of text ≡ before ∷ lines_of after
lines_cut text before after cut = rw cut.whole (lines_at before after cut.first)

-- the last line may have no byte 10
pub lines_whole : (text : List ℕ) → 0 < length text → Lacks 10 text → lines_of text ≡ text ∷ []
lines_whole [] some h = absurd (omega arith)
lines_whole (b ∷ []) some h = rw (false_from_ne b 10 h.0) refl
lines_whole (b ∷ c ∷ text) some h = rw (false_from_ne b 10 h.0) (rw (lines_whole (c ∷ text) (omega arith) h.1) refl)

lacks_onto : (b : ℕ) (texts : List (List ℕ)) → b ≢ 10 → AllByRecursion (Lacks 10) texts → AllByRecursion (Lacks 10) (onto_first b texts)
lacks_onto b [] ne h = ((ne, tt), tt)
lacks_onto b (text ∷ texts) ne h = ((ne, h.0), h.1)

lacks_next : (b : ℕ) (bytes : List ℕ) (t : Bool) → eqb b 10 ≡ t → AllByRecursion (Lacks 10) (lines_of bytes) → AllByRecursion (Lacks 10) (lines_of (b ∷ bytes))
lacks_next b bytes true e h = rw e (tt, h)
lacks_next b bytes false e h =
    let ne : b ≢ 10 = grind (arith, e) in
    rw e (lacks_onto b (lines_of bytes) ne h)

-- no line has a byte 10 in it
pub lines_lack : (bytes : List ℕ) → AllByRecursion (Lacks 10) (lines_of bytes)
lines_lack [] = tt
lines_lack (b ∷ bytes) = lacks_next b bytes (eqb b 10) refl (lines_lack bytes)
