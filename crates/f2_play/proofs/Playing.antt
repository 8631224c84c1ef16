-- Lines one after another, and scripts that begin with lines that say nothing.
use Rattle.std.proofs.Common.{◌≡◌, ℕ, Bool, true, false, List, [], ◌∷◌, ◌++◌, refl, sym, ap, ◌∙◌, subst, append-nil, arith, Result, Ok, Err}
use Rattle.std.specs.Prelude.{if◌then◌else◌}
use Rattle.std.specs.List.{AllByRecursion}
use Rattle.std.proofs.lemmas.Grind.{flat_map-append}
use Rattle.f2_format.specs.Geometry.{ImageGeometry, breaks_blocks, breaks_nat, breaks_zones, breaks_nids}
use Rattle.f2_layout.specs.Refusal.{geometry_of}
use Rattle.f2_layout.specs.declared.geometry.BadGeometry.{BadGeometry}
use Rattle.f2_layout.specs.declared.geometry.Limit.{Limit}
use Rattle.f2_model.specs.declared.bounds.Limits.{Limits}
use Rattle.f2_model.specs.State.{State}
use Rattle.f2_model.specs.Step.{Faults}
use Rattle.f2_script.specs.declared.script.Line.{Line}
use Rattle.f2_script.specs.declared.script.Line.TheVariants as line
use Rattle.f2_play.specs.Parts.{Part, IsCalm, text_of}
use Rattle.f2_play.specs.Lines.{PlaysLine, PlaysLines}
use Rattle.f2_play.specs.Faults.{Planned, planned_at, AreCounted}
use Rattle.f2_play.specs.Scripts.{PlaysScript, BreaksLimit}

-- sizes that pass one test
if-ok : (b : Bool) (bad : BadGeometry) (rest : Result ImageGeometry BadGeometry) (g : ImageGeometry) → (if b then Err bad else rest) ≡ Ok g → rest ≡ Ok g
if-ok true bad rest g h = cc
if-ok false bad rest g h = h

-- sizes that break no limit are the sizes that were asked for
pub geometry_of-ok : (e g : ImageGeometry) → geometry_of e ≡ Ok g → g ≡ e
geometry_of-ok e g h =
    let last : Ok e ≡ Ok g = if-ok (breaks_nids e) _ _ g (if-ok (breaks_zones e) _ _ g (if-ok (breaks_nat e) _ _ g (if-ok (breaks_blocks e) _ _ g h))) in
    cc

-- lines, and then one line more
pub PlaysLines-snoc : (limits : Limits) (from mid : State) (lines : List Line) (parts : List Part) (line : Line) (part : Part)
    → PlaysLines limits from lines parts mid → PlaysLine limits mid line part → PlaysLines limits from (lines ++ line ∷ []) (parts ++ part ∷ []) part.after
PlaysLines-snoc limits from mid [] [] line part first last = (subst (λ s. PlaysLine limits s line part) (sym first) last, refl)
PlaysLines-snoc limits from mid [] (p ∷ parts) line part first last = absurd first
PlaysLines-snoc limits from mid (l ∷ lines) [] line part first last = absurd first
PlaysLines-snoc limits from mid (l ∷ lines) (p ∷ parts) line part first last = (first.0, PlaysLines-snoc limits p.after mid lines parts line part first.1 last)

-- the text of parts, and then of one part more
pub text_of-snoc : (parts : List Part) (part : Part) (text more : List ℕ) → text ≡ text_of parts → part.text ≡ more → text ++ more ≡ text_of (parts ++ part ∷ [])
text_of-snoc parts part text more first last =
    ap (λ t. t ++ more) first
    ∙ ap (λ t. text_of parts ++ t) (sym last ∙ sym (append-nil part.text))
    ∙ sym (flat_map-append (λ p. p.text) parts (part ∷ []))

pub all-snoc : {X : Type 0} (P : X → Type 0) (xs : List X) (x : X) → AllByRecursion P xs → P x → AllByRecursion P (xs ++ x ∷ [])
all-snoc P [] x all last = (last, tt)
all-snoc P (y ∷ xs) x all last = (all.0, all-snoc P xs x all.1 last)

calm-counted : (planned : Planned) (line : Line) (lines : List Line) (part : Part) (parts : List Part) → IsCalm part
    → AreCounted (planned_at planned 0 line) 0 lines parts → AreCounted planned 0 (line ∷ lines) (part ∷ parts)
calm-counted planned line lines part parts is rest =
    let after : part.faults.after ≡ 0 = ap (λ (f : Faults). f.after) is in (
      ap (λ (f : Faults). f.before) is,
      omega (arith, after),
      (λ not_stopped. omega (arith, after)),
      subst (λ n. AreCounted (planned_at planned 0 line) n lines parts) (sym after) rest,
    )

-- where no call of the disk failed the counts stand at 0
pub are-counted : (limits : Limits) (from to : State) (planned : Planned) (lines : List Line) (parts : List Part)
    → PlaysLines limits from lines parts to → AllByRecursion IsCalm parts → AreCounted planned 0 lines parts
are-counted limits from to planned [] [] played all = tt
are-counted limits from to planned [] (part ∷ parts) played all = absurd played
are-counted limits from to planned (line ∷ lines) [] played all = absurd played
are-counted limits from to planned (line ∷ lines) (part ∷ parts) played all =
    calm-counted planned line lines part parts all.0 (are-counted limits part.after to (planned_at planned 0 line) lines parts played.1 all.1)

pub image-counted : (limits : Limits) (to : State) (one : Line) (lines : List Line) (planned : Planned) (part : Part) (parts : List Part)
    → IsCalm part → PlaysLines limits part.after lines parts to → AllByRecursion IsCalm parts → AreCounted planned 0 (one ∷ lines) (part ∷ parts)
image-counted limits to one lines planned part parts first played rest =
    calm-counted planned one lines part parts first (are-counted limits part.after to (planned_at planned 0 one) lines parts played rest)

-- lines that say nothing stand before a script
abbrev pub SaysNothing : Line → Type 0
SaysNothing one = one ≡ line.Skipped

pub script-skips : (size : ℕ) (skipped lines : List Line) (parts : List Part) → AllByRecursion SaysNothing skipped → PlaysScript size lines parts → PlaysScript size (skipped ++ lines) parts
script-skips size [] lines parts all played = played
script-skips size (one ∷ skipped) lines parts all played =
    subst (λ l. PlaysScript size (l ∷ skipped ++ lines) parts) (sym all.0) (script-skips size skipped lines parts all.1 played)

pub limit-skips : (skipped lines : List Line) (limit : Limit) (value : ℕ) → AllByRecursion SaysNothing skipped → BreaksLimit lines limit value → BreaksLimit (skipped ++ lines) limit value
limit-skips [] lines limit value all broken = broken
limit-skips (one ∷ skipped) lines limit value all broken =
    subst (λ l. BreaksLimit (l ∷ skipped ++ lines) limit value) (sym all.0) (limit-skips skipped lines limit value all.1 broken)
