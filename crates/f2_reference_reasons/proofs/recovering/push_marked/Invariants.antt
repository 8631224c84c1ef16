use Rattle.std.proofs.Common.{◌≡◌, ◌++◌, map, drop}
use Rattle.f2_reference_calls.specs.Given.{rows_at}
use Rattle.f2_reference_state.specs.Parts.{mark_of}
use Rattle.f2_reference_reasons.proofs.recovering.push_marked.Given as goal

-- the marks that are left make the rows whole
abbrev pub invariant-loop-mark : goal.invariant-loop-mark
invariant-loop-mark l = rows_at l.rows.items ++ map (λ mark. mark.row) (map mark_of (drop l.mark-index l.marks)) ≡ rows_at l.initial.rows.items ++ map (λ mark. mark.row) (map mark_of l.marks)
