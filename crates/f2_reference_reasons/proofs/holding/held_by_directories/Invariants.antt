use Rattle.std.proofs.Common.{◌≡◌, ◌*◌, ◌^◌, ◌≤◌, drop}
use Rattle.std.specs.List.{fold}
use Rattle.f2_model.specs.Fallback.{sum_of, nothing, of_directory}
use Rattle.f2_reference_calls.specs.Given.{rows_at}
use Rattle.f2_reference_reasons.specs.Boths.{both_of}
use Rattle.f2_reference_reasons.proofs.Left.{directories_at}
use Rattle.f2_reference_reasons.proofs.holding.held_by_directories.Given as goal

-- the rows that are left make the sum whole
abbrev pub invariant-loop-row : goal.invariant-loop-row
invariant-loop-row l = record {
  whole : fold (λ total directory. sum_of total (of_directory (rows_at l.rows) directory)) (both_of l.total) (directories_at (rows_at (drop l.row-index l.based)))
      ≡ fold (λ total directory. sum_of total (of_directory (rows_at l.rows) directory)) nothing (directories_at (rows_at l.based));
  nodes : l.total.nodes ≤ l.row-index * 2 ^ 64;
  pages : l.total.pages ≤ l.row-index * 2 ^ 64;
}
