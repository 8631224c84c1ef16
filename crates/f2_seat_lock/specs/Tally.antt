-- The log of the value that the tests lock: which seat made which step.
use Rattle.std.specs.Prelude.{ℕ, ◌≤◌, List, ◌++◌, map, filter, count_by, cond, ◌==◌}
use Rattle.std.proofs.Common.{subst, arith}
use Rattle.std.proofs.lemmas.List.Sums.{sum_by-append}
use mathlib.Core.List.{IsPrefix}

-- the steps of one seat, in order
abbrev pub steps_of : List (ℕ × ℕ) → ℕ → List ℕ
steps_of log seat = map (λ s. s.1) (filter (λ s. s.0 == seat) log)

-- a step of seat 1 is a mark
abbrev pub marks_of : List (ℕ × ℕ) → ℕ
marks_of log = count_by (λ s. s.0 == 1) log

-- the number of marks never falls as the log grows
pub marks_rise : (xs ys : List (ℕ × ℕ)) → IsPrefix xs ys → marks_of xs ≤ marks_of ys
marks_rise xs ys h =
    let both = sum_by-append (λ (s : ℕ × ℕ). cond (s.0 == 1) 1 0) xs h.0 in
    let longer : marks_of xs ≤ marks_of (xs ++ h.0) = omega arith in
    subst (λ l. marks_of xs ≤ marks_of l) h.1 longer
