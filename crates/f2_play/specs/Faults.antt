-- Which counts of faults the lines of a script may come to.
use Rattle.std.specs.Prelude.{◌≡◌, ℕ, ◌+◌, ◌-◌, ◌^◌, ◌<◌, ◌≤◌, Bool, true, false, List, [], ◌∷◌}
use Rattle.f2_script.specs.declared.script.Line.{Line}
use Rattle.f2_script.specs.declared.script.Line.TheVariants.{Crash, Fail, Stop}
use Rattle.f2_play.specs.Parts.{Part}

-- What is planned to fail: the disk's count of faults before the `mkfs` line or the last `crash` line, the `fail` lines
-- since then, and whether a `stop` line stands since then.
pub record Planned : Type 0 where
  pub base : ℕ
  pub fails : ℕ
  pub is_stopped : Bool

-- nothing is planned where the count is so
abbrev pub nothing_planned : ℕ → Planned
nothing_planned count = record { base = count; fails = 0; is_stopped = false }

-- what is planned at a line, before which the count is so
abbrev pub planned_at : Planned → ℕ → Line → Planned
planned_at planned count (Crash pick) = nothing_planned count
planned_at planned count (Fail kind n) = record planned { fails = planned.fails + 1 }
planned_at planned count (Stop n) = record planned { is_stopped = true }
planned_at planned count _ = planned

-- A count that isn't at the end of its type. There it stands still, and a call that failed can't be told from one that
-- didn't.
abbrev pub IsCounting : ℕ → Type 0
IsCounting count = count < 2 ^ 64 - 1

-- the count may rise to this one: no more calls failed than `fail` lines stand there, unless a `stop` line does
abbrev pub MayRiseTo : Planned → ℕ → Type 0
MayRiseTo planned count = planned.is_stopped ≡ false → count ≤ planned.base + planned.fails

-- The count is so before lines, and rises in each as it may. Where no `fail` line and no `stop` line stands since the
-- `mkfs` line or the last `crash` it rises in no event, so that none can tell a fault.
abbrev pub AreCounted : Planned → ℕ → List Line → List Part → Type 0
AreCounted planned count [] [] = Unit {0}
AreCounted planned count [] (part ∷ parts) = ⊥
AreCounted planned count (line ∷ lines) [] = ⊥
AreCounted planned count (line ∷ lines) (part ∷ parts) =
    (part.faults.before ≡ count) × IsCounting part.faults.after × MayRiseTo (planned_at planned count line) part.faults.after
    × AreCounted (planned_at planned count line) part.faults.after lines parts
