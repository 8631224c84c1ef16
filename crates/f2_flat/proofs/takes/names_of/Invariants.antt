use Rattle.std.proofs.Common.{◌≡◌}
use Rattle.std.specs.FinMap as map
use Rattle.f2_flat.specs.Kept.{with_rows}
use Rattle.f2_flat.proofs.takes.names_of.Given as goal

-- the rows that are left make the names whole
abbrev pub invariant-loop-row : goal.invariant-loop-row
invariant-loop-row l = with_rows l.names l.row-iterator ≡ with_rows map.empty (map.values l.tree)
