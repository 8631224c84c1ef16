use Rattle.std.proofs.Common.{◌≡◌, ℕ, ◌+◌, ◌*◌, ◌<◌}
use Rattle.std.specs.FinMap as map
use Rattle.f2_format.specs.Geometry.{ENTRIES_A_NAT_BLOCK}
use Rattle.f2_format.specs.Nat.{nat_entry}
use Rattle.f2_laid.specs.Laid.{at_of}
use Rattle.f2_plain_plan.proofs.tables.table_block.Given as goal

abbrev pub invariant-loop-place : goal.invariant-loop-place
invariant-loop-place l = (place : ℕ) → place < l.place → (nat_entry l.bytes place).1 ≡ at_of (map.get l.places (ENTRIES_A_NAT_BLOCK * l.block + place))
