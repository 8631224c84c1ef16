use Rattle.std.proofs.Common.{sym, subst}
use Rattle.std.specs.FinMap as map
use Rattle.f2_model.specs.Fallback.{nothing}
use Rattle.f2_held.specs.Sums.{IsDirectories}
use Rattle.f2_held.proofs.MapSums.{IsDirectories-empty}
use Rattle.f2_held.proofs.directories.Directories.new.Goals as goal

pub invariant_of-result : goal.invariant_of-result
invariant_of-result c = subst (λ es. IsDirectories (map.from_entries es) nothing) (sym c.new.ensures.empty) IsDirectories-empty
