use Rattle.std.proofs.Common.{sym, subst}
use Rattle.std.specs.FinMap as map
use Rattle.f2_model.specs.Fallback.{nothing}
use Rattle.f2_held.specs.Sums.{IsSizes}
use Rattle.f2_held.proofs.MapSums.{IsSizes-empty}
use Rattle.f2_held.proofs.sizes.Sizes.new.Goals as goal

pub invariant_of-result : goal.invariant_of-result
invariant_of-result c = subst (λ es. IsSizes (map.from_entries es) nothing) (sym c.new.ensures.empty) IsSizes-empty
