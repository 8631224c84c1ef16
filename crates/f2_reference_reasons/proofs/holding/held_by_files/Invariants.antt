use Rattle.std.proofs.Common.{◌≡◌, ◌*◌, ◌^◌, ◌≤◌, drop}
use Rattle.std.specs.List.{fold}
use Rattle.f2_model.specs.Fallback.{sum_of, nothing, greatest_of, regular_inos}
use Rattle.f2_reference_calls.specs.Given.{rows_at}
use Rattle.f2_reference_reasons.specs.Boths.{both_of}
use Rattle.f2_reference_reasons.proofs.holding.held_by_files.Given as goal

-- the files that are left make the sum whole
abbrev pub invariant-loop-file : goal.invariant-loop-file
invariant-loop-file l = record {
  whole : fold (λ total file. sum_of total (greatest_of (rows_at l.rows) file)) (both_of l.total) (drop l.file-index l.file-items)
      ≡ fold (λ total file. sum_of total (greatest_of (rows_at l.rows) file)) nothing (regular_inos (rows_at l.rows));
  nodes : l.total.nodes ≤ l.file-index * 2 ^ 64;
  pages : l.total.pages ≤ l.file-index * 2 ^ 64;
}
