use Rattle.std.proofs.Common.{sym, subst}
use Rattle.f2_format.specs.Packing.{nothing_packed}
use Rattle.f2_held.specs.Sums.{IsNameSet}
use Rattle.f2_held.proofs.NameLemmas.{IsNameSet-none}
use Rattle.f2_held.proofs.name_sets.NameSet.new.Goals as goal

pub invariant_of-result : goal.invariant_of-result
invariant_of-result c = subst (λ list. IsNameSet list nothing_packed) (sym c.new.ensures.items) IsNameSet-none
