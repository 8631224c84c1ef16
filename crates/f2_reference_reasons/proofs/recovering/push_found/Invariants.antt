use Rattle.std.proofs.Common.{◌≡◌, ◌++◌, drop}
use Rattle.std.specs.List.{filter_map}
use Rattle.std.specs.FinMap as map
use Rattle.f2_reference_calls.specs.Given.{rows_at}
use Rattle.f2_reference_reasons.proofs.recovering.push_found.Given as goal

-- the inos that are left make the rows whole
abbrev pub invariant-loop-ino : goal.invariant-loop-ino
invariant-loop-ino l = rows_at l.rows.items ++ filter_map (map.get l.tree) (drop l.ino-index l.inos) ≡ rows_at l.initial.rows.items ++ filter_map (map.get l.tree) l.inos
